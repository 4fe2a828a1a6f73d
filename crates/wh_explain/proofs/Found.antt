-- If replay stops at a difference, the explanation ends in it.
use Rattle.std.proofs.Common.{◌≡◌, ◌∙◌, ℕ, suc, ◌+◌, ◌-◌, Bool, true, false, cond, List, [], ◌∷◌, ◌++◌, length, Option, Some, None, Result, Ok, Err, refl, sym, ap, subst, arith}
use Rattle.std.specs.Prelude.{IsSome, slice_get, ⊤}
use Rattle.std.proofs.lemmas.List.{length_push}
use Rattle.std.specs.List.{list_any}
use Rattle.wh_machines.proofs.Jumping.{slice_get_end}
use Rattle.wh_events.specs.declared.event.Event.{Event}
use Rattle.wh_events.specs.declared.place.PlaceFault.{PlaceFault}
use Rattle.wh_events.specs.Cuts.{cuts}
use Rattle.wh_events.specs.Places.{history_fault}
use Rattle.wh_events.specs.Machines.{machines_of}
use Rattle.wh_json.specs.Events.{history}
use Rattle.wh_json.specs.declared.fault.ReadFault.{ReadFault}
use Rattle.wh_workflow.specs.declared.command.Command.{Command}
use Rattle.wh_workflow.specs.declared.fault.WorkflowFault.{WorkflowFault}
use Rattle.wh_workflow.specs.declared.fault.Mismatch.{Mismatch}
use Rattle.wh_workflow.specs.Law.{Program, IsLawful}
use Rattle.wh_workflow.specs.Names.{names}
use Rattle.wh_workflow.specs.Scripts.{Settled, reduced}
use Rattle.wh_workflow.specs.Activations.{and_then}
use Rattle.wh_workflow.specs.ActivationScripts.{fault_in, issued_in}
use Rattle.wh_replay.specs.declared.fault.ReplayedTasks.{ReplayedTasks}
use Rattle.wh_replay.specs.declared.fault.Fault.{Fault}
use Rattle.wh_replay.specs.declared.fault.Fault.TheVariants.{Mismatch as Mismatched}
use Rattle.wh_replay.specs.Outcomes.{replayed_tasks, ends_live}
use Rattle.wh_replay.specs.Replays.{ReplayResult, replay, replay_after, replay_known, replay_placed, replay_tasks, start, with_machines, workflow_of}
use Rattle.wh_replay.specs.Views.{context_after}
use Rattle.wh_replay.specs.Tracking.{in_place}
use Rattle.wh_tester.specs.declared.line.Verdict.TheVariants.{Faulty}
use Rattle.wh_tester.specs.UnknownTypes.{unknown_of}
use Rattle.wh_tester.specs.Verdicts.{judged, read_and_judged, verdict_on}
use Rattle.wh_explained_tasks.specs.declared.Ending.{Ending}
use Rattle.wh_explained_tasks.specs.declared.Ending.TheVariants.{Refused, Live, Recorded}
use Rattle.wh_explained_tasks.specs.declared.ExplainedTask.{ExplainedTask}
use Rattle.wh_explained_tasks.specs.declared.RecordedEvent.{RecordedEvent}
use Rattle.wh_explained_tasks.specs.declared.Pairing.{Pairing}
use Rattle.wh_explained_tasks.specs.declared.Pairing.TheVariants.{Alike, Different, CommandMissing, CommandExtra}
use Rattle.wh_explain.specs.Differences.{IsDifferenceIn, difference_at, difference_of, if_differs, last_difference, last_of}
use Rattle.wh_explain.specs.Explaining.{sent_ending, unless_refused, IsTask, AreTasks, all, stopped, passed, AreTasksOf, AreTasksIn, AreTasksPlaced, AreTasksIf}
use Rattle.wh_explain.specs.Laws.{EndAs, EndsDifferent}
use Rattle.wh_explain.specs.Pairings.{pairings, recorded_event, differs, difference_from}
use Rattle.wh_explain.proofs.Agreeing.{ends_as_replay}

-- the last of a list is what was pushed last
pub last_pushed : {A : Type 0} (rest : List A) (x : A) → last_of (rest ++ x ∷ []) ≡ Some x
last_pushed rest x =
    let size = length_push rest x in
    let place : length (rest ++ x ∷ []) - 1 ≡ length rest = omega arith in
    ap (slice_get (rest ++ x ∷ [])) place ∙ slice_get_end rest x

-- the last of a list with one element more in front
pub last_more : {A : Type 0} (x y : A) (ys : List A) → last_of (x ∷ y ∷ ys) ≡ last_of (y ∷ ys)
last_more x y ys =
    let place : length (x ∷ y ∷ ys) - 1 ≡ suc (length (y ∷ ys) - 1) = omega arith in
    ap (slice_get (x ∷ y ∷ ys)) place

-- where a pairing differs, one of the pairings that begin with another does, and it is the last where it was
more : (x : Pairing) (rest : List Pairing) → list_any differs rest ≡ true → IsSome (if_differs (last_of rest)) → IsSome (if_differs (last_of (x ∷ rest)))
more x [] some found = absurd (cc)
more x (y ∷ ys) some found = subst (λ o. IsSome (if_differs o)) (sym (last_more x y ys)) found

paired_by : (alike : Bool) (command : Command) (event : RecordedEvent) (rest : List Pairing) → (list_any differs rest ≡ true → IsSome (if_differs (last_of rest)))
    → list_any differs (cond alike (Alike command event) (Different command event) ∷ cond alike rest []) ≡ true
    → IsSome (if_differs (last_of (cond alike (Alike command event) (Different command event) ∷ cond alike rest [])))
paired_by true command event rest later some = more (Alike command event) rest some (later some)
paired_by false command event rest later some = refl

-- pairings go up to the first difference: where there is one, it is the last
last_differs : (history : List Event) (commands : List Command) (events : List Event) → list_any differs (pairings history commands events) ≡ true → IsSome (if_differs (last_of (pairings history commands events)))
last_differs history [] [] some = absurd (cc)
last_differs history [] (event ∷ events) some = refl
last_differs history (command ∷ commands) [] some = refl
last_differs history (command ∷ commands) (event ∷ events) some =
    paired_by (names history command event.body) command (recorded_event history event) (pairings history commands events) (last_differs history commands events) some

-- where there is a first difference, a pairing differs
some_differ : (index : ℕ) (mismatch : Mismatch) (shown : List Pairing) → difference_from index shown ≡ Some mismatch → list_any differs shown ≡ true
some_differ index mismatch [] first = absurd (cc)
some_differ index mismatch (Alike command event ∷ rest) first = some_differ (index + 1) mismatch rest first
some_differ index mismatch (Different command event ∷ rest) first = refl
some_differ index mismatch (CommandMissing event ∷ rest) first = refl
some_differ index mismatch (CommandExtra command ∷ rest) first = refl

-- the pairings of a recorded task are those of what it sends and its record
abbrev IsPaired : Ending → Type 0
IsPaired Refused = ⊤
IsPaired (Live sent) = ⊤
IsPaired (Recorded shown) = (history : List Event) × (sent : List Command) × (recorded : List Event) × (shown ≡ pairings history sent recorded)

ending_paired : (events : List Event) (sent : List Command) (fault : Option WorkflowFault) (recorded : Option (List Event)) → IsPaired (unless_refused fault (sent_ending events sent recorded))
ending_paired events sent (Some fault) recorded = tt
ending_paired events sent None None = tt
ending_paired events sent None (Some recorded) = (events, sent, recorded, refl)

-- so the last one differs where one does
shown_last : (ending : Ending) (shown : List Pairing) → IsPaired ending → ending ≡ Recorded shown → list_any differs shown ≡ true → IsSome (difference_at ending)
shown_last Refused shown paired is some = absurd (cc)
shown_last (Live sent) shown paired is some = absurd (cc)
shown_last (Recorded own) shown paired is some =
    let same : own ≡ shown = cc in
    let differ : list_any differs (pairings paired.0 paired.1 paired.2) ≡ true = ap (list_any differs) (sym paired.3 ∙ same) ∙ some in
    subst (λ l. IsSome (if_differs (last_of l))) (sym paired.3) (last_differs paired.0 paired.1 paired.2 differ)

module _ {S : Type 0} (program : Program S) (events : List Event) where
  abbrev AllPaired : List ExplainedTask → Type 0
  AllPaired [] = ⊤
  AllPaired (task ∷ tasks) = IsPaired task.ending × AllPaired tasks

  task_paired : (last number : ℕ) (state : S) (settled : Settled) (task : ExplainedTask) → IsTask program events last number state settled task → IsPaired task.ending
  task_paired last number state settled task t =
      let context = context_after events last number in
      subst IsPaired (sym t.ending) (ending_paired events (reduced context (issued_in context settled task.steps)) (fault_in context settled [] task.steps) context.recorded)

  tasks_paired : (last : ℕ) (numbers : List ℕ) (state : S) (settled : Settled) (tasks : List ExplainedTask) → AreTasks program events last numbers state settled tasks → AllPaired tasks
  tasks_paired last numbers state settled tasks (all at from versions) = tt
  tasks_paired last numbers state settled tasks (stopped at number rest from versions task t stop) = (task_paired last number state settled task t, tt)
  tasks_paired last numbers state settled tasks (passed at number rest from versions task more t pass later) =
      (task_paired last number state settled task t, tasks_paired number rest _ _ more later)

  last_paired : (front : List ExplainedTask) (task : ExplainedTask) → AllPaired (front ++ task ∷ []) → IsPaired task.ending
  last_paired [] task paired = paired.0
  last_paired (first ∷ front) task paired = last_paired front task paired.1

  -- the difference of the replay's fault is found
  found_in : (at : ℕ) (mismatch : Mismatch) (tasks : List ExplainedTask) → AllPaired tasks → EndsDifferent at mismatch tasks → IsSome (last_difference tasks)
  found_in at mismatch tasks paired ends =
      let own = last_paired ends.0 ends.1 (subst AllPaired ends.3 paired) in
      let one = shown_last ends.1.ending ends.2 own ends.5 (some_differ 1 mismatch ends.2 ends.6) in
      subst (λ l. IsSome (last_difference l)) (sym ends.3) (subst (λ o. IsSome (difference_of o)) (sym (last_pushed ends.0 ends.1)) one)

-- a fault of what goes on is that of what it goes on from
fault_before : {A B : Type 0} (result : Result A Fault) (left : A → B) (fault : Fault) → and_then result (λ one. Ok (left one)) ≡ Err fault → result ≡ Err fault
fault_before (Ok one) left fault is = absurd (cc)
fault_before (Err own) left fault is = (let same : own ≡ fault = cc in ap Err same)

judged_faulty : (unknown : Option (List ℕ)) (result : Result ReplayedTasks Fault) (fault : Fault) → judged unknown result ≡ Faulty fault → result ≡ Err fault
judged_faulty (Some kind) result fault is = absurd (cc)
judged_faulty None (Ok one) fault is = absurd (cc)
judged_faulty None (Err own) fault is = (let same : own ≡ fault = cc in ap Err same)

module _ {S : Type 0} where
  placed_where : (place : Option (ℕ × PlaceFault)) (replayed : Result (ReplayResult S) Fault) (at : ℕ) (mismatch : Mismatch) → replay_placed place replayed ≡ Err (Mismatched at mismatch) → place ≡ None
  placed_where None replayed at mismatch is = refl
  placed_where (Some fault) replayed at mismatch is = absurd (cc)

  known_where : (knows : Bool) (replayed : Result (ReplayResult S) Fault) (at : ℕ) (mismatch : Mismatch) → replay_known knows replayed ≡ Err (Mismatched at mismatch) → knows ≡ true
  known_where true replayed at mismatch is = refl
  known_where false replayed at mismatch is = absurd (cc)

-- where the tasks of a history have a difference, the explanation ends in it
tasks_found : {S : Type 0} (program : Program S) → IsLawful program → (events : List Event) (at : ℕ) (mismatch : Mismatch) (tasks : List ExplainedTask) → AreTasksOf program events tasks → replay_tasks program events 0 ≡ Err (Mismatched at mismatch) → IsSome (last_difference tasks)
unfolding replay_tasks
tasks_found {S} program lawful events at mismatch tasks are is =
    let replayed = replay_after program [] [] events (start program (workflow_of events) 0) in
    let placed = placed_where (history_fault events) (replay_known (program.knows (workflow_of events)) replayed) at mismatch is in
    let P : Option (ℕ × PlaceFault) → Type 0 = λ fault. replay_placed fault (replay_known (program.knows (workflow_of events)) replayed) ≡ Err (Mismatched at mismatch) in
    let known = known_where (program.knows (workflow_of events)) replayed at mismatch (subst P placed is) in
    let Q : Option (ℕ × PlaceFault) → Type 0 = λ fault. AreTasksPlaced (in_place fault events) program tasks in
    let R : Bool → Type 0 = λ knows. AreTasksIf knows program events tasks in
    let told = subst R known (subst Q placed are) in
    let ends : EndsDifferent at mismatch tasks = subst (λ r. EndAs r tasks) is (ends_as_replay program lawful events tasks placed known are) in
    found_in program events at mismatch tasks (tasks_paired program events 0 (cuts events) (program.initial (workflow_of events)) [] tasks told) ends

-- the verdict on a file is a difference
abbrev pub StopsAtDifference : {S : Type 0} → Program S → List ℕ → Type 0
StopsAtDifference program bytes =
    (at : ℕ) × (mismatch : Mismatch) × (verdict_on program bytes ≡ Faulty (Mismatched at mismatch))

-- where the replay of a file stops at a difference, that is found
pub difference_found : {S : Type 0} (program : Program S) → IsLawful program → (bytes : List ℕ) (found : Option Pairing) → IsDifferenceIn program bytes found → StopsAtDifference program bytes → IsSome found
unfolding verdict_on
difference_found {S} program lawful bytes found own stops = subst IsSome (sym own.last) (by (history bytes) own.explained stops.2)
  where
    by : (read : Result (List Event) ReadFault) → AreTasksIn program read own.tasks → read_and_judged program read ≡ Faulty (Mismatched stops.0 stops.1) → IsSome (last_difference own.tasks)
    by (Err fault) are is = absurd (cc)
    by (Ok events) are is =
        let whole = judged_faulty (unknown_of program events) (replayed_tasks program events) (Mismatched stops.0 stops.1) is in
        let replayed = fault_before (replay program events 0) (λ _. record { tasks = length (cuts events); live = ends_live events }) (Mismatched stops.0 stops.1) whole in
        let left = fault_before (replay_tasks program events 0) (with_machines (machines_of events)) (Mismatched stops.0 stops.1) replayed in
        tasks_found program lawful events stops.0 stops.1 own.tasks are left
