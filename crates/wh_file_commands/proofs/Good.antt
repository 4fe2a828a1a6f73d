-- A file whose replay has no fault: what is found of it, and its record.
use Rattle.std.proofs.Common.{◌≡◌, ◌∙◌, ℕ, Bool, true, false, ◌||◌, cond, List, [], ◌∷◌, length, Option, Some, None, Result, Ok, Err, refl, sym, ap, subst, arith}
use Rattle.std.specs.Prelude.{IfSome, string_bytes}
use Rattle.std.specs.Result.{result_ok}
use Rattle.std.specs.List.{list_any}
use Rattle.wh_console.specs.declared.replay_options.TheConstants.{NO_OPTIONS}
use Rattle.wh_events.specs.Cuts.{cuts}
use Rattle.wh_events.specs.Machines.{machines_of}
use Rattle.wh_events.specs.Places.{history_fault}
use Rattle.wh_events.specs.declared.event.Event.{Event}
use Rattle.wh_events.specs.declared.place.PlaceFault.{PlaceFault}
use Rattle.wh_json.specs.Events.{history}
use Rattle.wh_json.specs.declared.fault.ReadFault.{ReadFault}
use Rattle.wh_activation.specs.Cutting.{jobs_at}
use Rattle.wh_workflow.specs.ActivationScripts.{settled_after, state_after}
use Rattle.wh_workflow.specs.Activations.{and_then}
use Rattle.wh_workflow.specs.Law.{Program, IsLawful}
use Rattle.wh_workflow.specs.Scripts.{Settled}
use Rattle.wh_workflow.proofs.Following.{whole_meets}
use Rattle.wh_workflow.proofs.Scripting.{longest_in_words}
use Rattle.wh_replay.specs.declared.fault.ReplayedTasks.{ReplayedTasks}
use Rattle.wh_replay.specs.declared.fault.Fault.{Fault}
use Rattle.wh_replay.specs.Outcomes.{replayed_tasks, ends_live}
use Rattle.wh_replay.specs.Replays.{ReplayResult, replay_after, replay_known, replay_placed, replay_tasks, start, with_machines, workflow_of}
use Rattle.wh_replay.specs.Tracking.{in_place}
use Rattle.wh_replay.specs.Views.{context_after}
use Rattle.wh_explained_tasks.specs.declared.Ending.{Ending}
use Rattle.wh_explained_tasks.specs.declared.Ending.TheVariants.{Refused, Live, Recorded}
use Rattle.wh_explained_tasks.specs.declared.ExplainedTask.{ExplainedTask}
use Rattle.wh_explained_tasks.specs.declared.Pairing.{Pairing}
use Rattle.wh_explain.specs.Differences.{IsDifferenceIn, difference_at, difference_of, if_differs, last_difference, last_of}
use Rattle.wh_explain.specs.Explaining.{AreTasks, AreTasksIf, AreTasksIn, AreTasksOf, AreTasksPlaced, IsTask, all, ending_of, passed, stopped, stops}
use Rattle.wh_explain.specs.Laws.{EndAs}
use Rattle.wh_explain.specs.Numbers.{numbers_at}
use Rattle.wh_explain.specs.Pairings.{differs}
use Rattle.wh_explain.proofs.Agreeing.{ends_as_replay}
use Rattle.wh_explain.proofs.Found.{last_more}
use Rattle.wh_explain.proofs.Tasks.{told_plain}
use Rattle.wh_file_faults.specs.Faults.{File}
use Rattle.wh_report.specs.Records.{IsRecordOf}
use Rattle.wh_report.specs.declared.records.Record.{Record}
use Rattle.wh_tester.proofs.Judging.{good_judged}
use Rattle.wh_tester.specs.Verdicts.{read_and_judged, verdict_on}
use Rattle.wh_file_commands.specs.GoodFiles.{tasks_in_file, tasks_read, good_record}

-- ---- the tasks of a history

module _ {S : Type 0} (program : Program S) (lawful : IsLawful program) (events : List Event) where
  -- the cuts of each history have an explanation
  explained : (last : ℕ) (numbers : List ℕ) (state : S) (settled : Settled) → (tasks : List ExplainedTask) × AreTasks program events last numbers state settled tasks
  explained last [] state settled = ([], all last state settled)
  explained last (number ∷ rest) state settled =
      let context = context_after events last number in
      let meets = whole_meets program lawful context (jobs_at events last number) state settled 0 (told_plain events last number) (omega arith) in
      let task : ExplainedTask = record { at = number; given = numbers_at events last number; steps = meets.0; ending = ending_of events context settled meets.0 } in
      let here : IsTask program events last number state settled task
      = record { number = refl; given = refl; steps = longest_in_words program context (jobs_at events last number) state settled meets.0 meets.1; ending = refl } in
      by task here (stops task.ending) refl (explained number rest (state_after program state task.steps) (settled_after settled task.steps))
    where
      by : (task : ExplainedTask) → IsTask program events last number state settled task → (stop : Bool) → stops task.ending ≡ stop
          → ((more : List ExplainedTask) × AreTasks program events number rest (state_after program state task.steps) (settled_after settled task.steps) more)
          → (tasks : List ExplainedTask) × AreTasks program events last (number ∷ rest) state settled tasks
      by task here true e more = (task ∷ [], stopped last number rest state settled task here e)
      by task here false e more = (task ∷ more.0, passed last number rest state settled task more.0 here e more.1)

-- ---- where no task stops, no difference is shown

or_first : (a b : Bool) → (a || b) ≡ false → a ≡ false
or_first true b h = absurd (cc)
or_first false b h = refl

or_second : (a b : Bool) → (a || b) ≡ false → b ≡ false
or_second true b h = absurd (cc)
or_second false b h = h

last_fails : {A : Type 0} (test : A → Bool) (xs : List A) → list_any test xs ≡ false → IfSome (last_of xs) (λ x. test x ≡ false)
last_fails test [] none = tt
last_fails test (x ∷ []) none = or_first (test x) false none
last_fails test (x ∷ y ∷ ys) none = subst (λ o. IfSome o (λ z. test z ≡ false)) (sym (last_more x y ys)) (last_fails test (y ∷ ys) (or_second (test x) (list_any test (y ∷ ys)) none))

ends_alike : (ending : Ending) → stops ending ≡ false → difference_at ending ≡ None
ends_alike Refused goes_on = refl
ends_alike (Live sent) goes_on = refl
ends_alike (Recorded pairings) goes_on = by (last_of pairings) (last_fails differs pairings goes_on)
  where
    by : (found : Option Pairing) → IfSome found (λ one. differs one ≡ false) → if_differs found ≡ None
    by None alike = refl
    by (Some one) alike = ap (λ b. cond b (Some one) None) alike

no_difference : (tasks : List ExplainedTask) → list_any (λ task. stops task.ending) tasks ≡ false → last_difference tasks ≡ None
no_difference tasks go_on = by (last_of tasks) (last_fails (λ task. stops task.ending) tasks go_on)
  where
    by : (found : Option ExplainedTask) → IfSome found (λ task. stops task.ending ≡ false) → difference_of found ≡ None
    by None goes_on = refl
    by (Some task) goes_on = ends_alike task.ending goes_on

-- ---- a history whose replay has no fault

some_ok : (result : Result ReplayedTasks Fault) (found : ReplayedTasks) → Some found ≡ result_ok result → result ≡ Ok found
some_ok (Ok other) found is = (let same : other ≡ found = cc in ap Ok same)
some_ok (Err fault) found is = absurd (cc)

module _ {S : Type 0} where
  placed_known : (place : Option (ℕ × PlaceFault)) (knows : Bool) (replayed : Result (ReplayResult S) Fault) (left : ReplayResult S) → replay_placed place (replay_known knows replayed) ≡ Ok left → (place ≡ None) × (knows ≡ true)
  placed_known None true replayed left is = (refl, refl)
  placed_known None false replayed left is = absurd (cc)
  placed_known (Some fault) knows replayed left is = absurd (cc)

  tasks_left : (events : List Event) (result : Result (ReplayResult S) Fault) (tasks found : ReplayedTasks) → and_then (and_then result (λ left. Ok (with_machines (machines_of events) left))) (λ _. Ok tasks) ≡ Ok found
      → (left : ReplayResult S) × (result ≡ Ok left)
  tasks_left events (Ok left) tasks found is = (left, refl)
  tasks_left events (Err fault) tasks found is = absurd (cc)

module _ {S : Type 0} (program : Program S) where
  -- its events are in place, there is code for its type, and its tasks leave something
  record IsReplayed (events : List Event) : Type 0 where
    placed : history_fault events ≡ None
    known : program.knows (workflow_of events) ≡ true
    left : ReplayResult S
    leaves : replay_tasks program events 0 ≡ Ok left

  replayed_where : (events : List Event) (found : ReplayedTasks) → replayed_tasks program events ≡ Ok found → IsReplayed events
  unfolding replay_tasks
  replayed_where events found is =
      let left = tasks_left events (replay_tasks program events 0) (record { tasks = length (cuts events); live = ends_live events }) found is in
      let both = placed_known (history_fault events) (program.knows (workflow_of events)) (replay_after program [] [] events (start program (workflow_of events) 0)) left.0 left.1 in
      record { placed = both.0; known = both.1; left = left.0; leaves = left.1 }

  -- its explanation shows no difference
  none_differs : (lawful : IsLawful program) (events : List Event) → IsReplayed events → (tasks : List ExplainedTask) × AreTasksOf program events tasks × (last_difference tasks ≡ None)
  none_differs lawful events own =
      let shown = explained program lawful events 0 (cuts events) (program.initial (workflow_of events)) [] in
      let P : Option (ℕ × PlaceFault) → Type 0 = λ fault. AreTasksPlaced (in_place fault events) program shown.0 in
      let Q : Bool → Type 0 = λ knows. AreTasksIf knows program events shown.0 in
      let are : AreTasksOf program events shown.0 = subst P (sym own.placed) (subst Q (sym own.known) shown.1) in
      let ends : EndAs (Ok own.left) shown.0 = subst (λ r. EndAs r shown.0) own.leaves (ends_as_replay program lawful events shown.0 own.placed own.known are) in
      (shown.0, are, no_difference shown.0 ends)

  -- ---- the record of a file

  found_read : (read : Result (List Event) ReadFault) (found : ReplayedTasks) → Some found ≡ tasks_read program read → (events : List Event) × (read ≡ Ok events) × (replayed_tasks program events ≡ Ok found)
  found_read (Err fault) found is = absurd (cc)
  found_read (Ok events) found is = (events, refl, some_ok (replayed_tasks program events) found is)

  of_good : (lawful : IsLawful program) (file : File) (found : ReplayedTasks) (events : List Event) → history file.1.items ≡ Ok events → replayed_tasks program events ≡ Ok found → IsRecordOf NO_OPTIONS program file (good_record (string_bytes file.0) found)
  unfolding verdict_on
  of_good lawful file found events read is =
      let own = replayed_where events found is in
      let shown = none_differs lawful events own in
      record {
        line = record {
          name = refl;
          verdict = record {
            exact = λ _. good_judged program events found is ∙ sym (ap (read_and_judged program) read);
            memory = λ other. absurd (cc);
            read = λ other. absurd (cc);
          };
        };
        detail = refl;
        difference = λ _. record { tasks = shown.0; explained = subst (λ one. AreTasksIn program one shown.0) (sym read) shown.1; last = sym shown.2 };
        warnings = λ _. refl;
        unwarned = λ _. refl;
      }

  -- a file of which replay finds this has this record
  pub good_is_record : IsLawful program → (file : File) (found : ReplayedTasks) (own : Record) → Some found ≡ tasks_in_file program file.1.items → own ≡ good_record (string_bytes file.0) found → IsRecordOf NO_OPTIONS program file own
  good_is_record lawful file found own is same =
      let there = found_read (history file.1.items) found is in
      subst (IsRecordOf NO_OPTIONS program file) (sym same) (of_good lawful file found there.0 there.1 there.2)
