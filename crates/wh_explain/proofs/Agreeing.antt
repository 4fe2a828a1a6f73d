-- The explanation of a history ends as its replay does.
use Rattle.std.proofs.Common.{◌≡◌, ℕ, ◌+◌, ◌≤◌, Bool, true, false, ◌||◌, cond, List, [], ◌∷◌, ◌++◌, length, take, drop, Option, Some, None, is_some, Result, Ok, Err, refl, sym, ap, subst, ◌∙◌, ◌⊎◌, inl, inr, arith}
use Rattle.std.specs.List.{list_any}
use Rattle.wh_events.specs.declared.event.Event.{Event}
use Rattle.wh_events.specs.declared.place.PlaceFault.{PlaceFault}
use Rattle.wh_events.specs.Cuts.{cuts}
use Rattle.wh_events.specs.Places.{history_fault, fault_after}
use Rattle.wh_split.specs.Splits.{first_of}
use Rattle.wh_activation.specs.Cutting.{jobs_at}
use Rattle.wh_workflow.specs.declared.command.Command.{Command}
use Rattle.wh_workflow.specs.declared.fault.WorkflowFault.{WorkflowFault}
use Rattle.wh_workflow.specs.declared.fault.Mismatch.{Mismatch}
use Rattle.wh_workflow.specs.declared.fault.Mismatch.TheVariants.{Different as DifferentEvent}
use Rattle.wh_workflow.specs.Counting.{risen}
use Rattle.wh_workflow.specs.Law.{Program, IsLawful}
use Rattle.wh_workflow.specs.Names.{names, mismatch_from, mismatch}
use Rattle.wh_workflow.specs.Scripts.{Settled, reduced}
use Rattle.wh_workflow.specs.Activations.{and_then, Progress, activate}
use Rattle.wh_workflow.specs.ActivationScripts.{fault_in, issued_in, settled_after, state_after, ok_unless, outcome}
use Rattle.wh_workflow.proofs.Following.{whole_meets}
use Rattle.wh_workflow.proofs.Scripting.{longest_in_words, one_is_longest}
use Rattle.wh_replay.specs.declared.fault.Fault.{Fault}
use Rattle.wh_replay.specs.declared.fault.Fault.TheVariants.{NotATask, Place as PlaceFaulty, Workflow as WorkflowFaulty, Mismatch as Mismatched}
use Rattle.wh_replay.specs.Replays.{ReplayResult, begin_at, reached, close_task, task_after, unless_mismatch, replay_after, replay_known, replay_placed, replay_tasks, start, workflow_of}
use Rattle.wh_replay.specs.Tracking.{in_place}
use Rattle.wh_replay.specs.Views.{context_after}
use Rattle.wh_replay.proofs.Stepping.{IsNext, next_is, no_cut, task_at, walk_next}
use Rattle.wh_explained_tasks.specs.declared.ExplainedTask.{ExplainedTask}
use Rattle.wh_explained_tasks.specs.declared.RecordedEvent.{RecordedEvent}
use Rattle.wh_explained_tasks.specs.declared.Pairing.{Pairing}
use Rattle.wh_explained_tasks.specs.declared.Pairing.TheVariants.{Alike, Different}
use Rattle.wh_explain.specs.Pairings.{pairings, recorded_event, differs, difference_from}
use Rattle.wh_explain.specs.Explaining.{sent_ending, unless_refused, stops, IsTask, AreTasks, all, stopped, passed, AreTasksIf, AreTasksPlaced}
use Rattle.wh_explain.specs.Laws.{EndAs, EndsAsReplay}
use Rattle.wh_explain.proofs.Tasks.{told_plain}

-- a pair of a command and an event differs where they are not named alike
differ_by : (alike : Bool) (command : Command) (event : RecordedEvent) (rest : List Pairing) (next : Option Mismatch) (other : Mismatch) → list_any differs rest ≡ is_some next
    → list_any differs (cond alike (Alike command event) (Different command event) ∷ cond alike rest []) ≡ is_some (cond alike next (Some other))
differ_by true command event rest next other later = later
differ_by false command event rest next other later = refl

-- what is sent differs from the record where it has a mismatch with it
pub differ_is : (history : List Event) (index : ℕ) (commands : List Command) (events : List Event) → list_any differs (pairings history commands events) ≡ is_some (mismatch_from history index commands events)
differ_is history index [] [] = refl
differ_is history index [] (event ∷ events) = refl
differ_is history index (command ∷ commands) [] = refl
differ_is history index (command ∷ commands) (event ∷ events) =
    differ_by (names history command event.body) command (recorded_event history event) (pairings history commands events) (mismatch_from history (index + 1) commands events) (DifferentEvent event.number) (differ_is history (index + 1) commands events)

-- the same of the first difference itself
shown_by : (alike : Bool) (index : ℕ) (command : Command) (event : RecordedEvent) (rest : List Pairing) (next : Option Mismatch) → difference_from (index + 1) rest ≡ next
    → difference_from index (cond alike (Alike command event) (Different command event) ∷ cond alike rest []) ≡ cond alike next (Some (DifferentEvent event.number))
shown_by true index command event rest next later = later
shown_by false index command event rest next later = refl

-- the first difference that is shown is the mismatch
pub shown_is : (history : List Event) (index : ℕ) (commands : List Command) (events : List Event) → difference_from index (pairings history commands events) ≡ mismatch_from history index commands events
shown_is history index [] [] = refl
shown_is history index [] (event ∷ events) = refl
shown_is history index (command ∷ commands) [] = refl
shown_is history index (command ∷ commands) (event ∷ events) =
    shown_by (names history command event.body) index command (recorded_event history event) (pairings history commands events) (mismatch_from history (index + 1) commands events) (shown_is history (index + 1) commands events)

abbrev pub top : ℕ
top = 0xffff_ffff_ffff_ffff

pub below_risen : (n m a : ℕ) → n ≡ risen m a → n ≤ top
below_risen n m a e = omega arith

unlike : (one : Bool) → one ≡ true → one ≡ false → ⊥
unlike one a b = cc

module _ {S : Type 0} where
  -- the replay of a task, and the ending of its explanation
  TaskEnds : Program S → List Event → ℕ → ℕ → ReplayResult S → ExplainedTask → Type 0
  TaskEnds program events last number current task =
      ((left : ReplayResult S) × (task_at program events last number current ≡ Ok left) × (stops task.ending ≡ false) × (left.state ≡ state_after program current.state task.steps) × (left.settled ≡ settled_after current.settled task.steps) × (left.meter ≤ top))
      ⊎ ((fault : Fault) × (task_at program events last number current ≡ Err fault) × (stops task.ending ≡ true) × ((front : List ExplainedTask) → EndAs {S = S} (Err fault) (front ++ task ∷ [])))

  longer : (result : Result (ReplayResult S) Fault) (task : ExplainedTask) (tasks : List ExplainedTask) → stops task.ending ≡ false → EndAs result tasks → EndAs result (task ∷ tasks)
  longer (Ok left) task tasks pass e = ap (λ b. b || list_any (λ (x : ExplainedTask). stops x.ending) tasks) pass ∙ e
  longer (Err (WorkflowFaulty at fault)) task tasks pass e = (task ∷ e.0, e.1, ap (λ l. task ∷ l) e.2, e.3, e.4)
  longer (Err (Mismatched at mismatch)) task tasks pass e = (task ∷ e.0, e.1, e.2, ap (λ l. task ∷ l) e.3, e.4, e.5, e.6)
  longer (Err (PlaceFaulty at fault)) task tasks pass e = e
  longer (Err NotATask) task tasks pass e = e

module _ {S : Type 0} (program : Program S) (lawful : IsLawful program) (events : List Event) where
  pub activates : (last number : ℕ) (current : ReplayResult S) (task : ExplainedTask) → current.meter ≤ top → IsTask program events last number current.state current.settled task
      → activate program (context_after events last number) (jobs_at events last number) (begin_at current) ≡ outcome program (context_after events last number) current.state current.settled current.meter task.steps
  activates last number current task below t =
      let context = context_after events last number in
      let jobs = jobs_at events last number in
      let meets = whole_meets program lawful context jobs current.state current.settled current.meter (told_plain events last number) below in
      let same = one_is_longest program context jobs current.state current.settled task.steps meets.0 t.steps (longest_in_words program context jobs current.state current.settled meets.0 meets.1) in
      meets.3 ∙ ap (outcome program context current.state current.settled current.meter) (sym same)

  -- a task whose commands can stand, by its record
  closes : (last number : ℕ) (current : ReplayResult S) (task : ExplainedTask) (progress : Progress S) (recorded : Option (List Event)) → task.at ≡ number → progress.meter ≤ top → progress.state ≡ state_after program current.state task.steps → progress.script.settled ≡ settled_after current.settled task.steps
      → task_at program events last number current ≡ close_task events (context_after events last number) number recorded progress → task.ending ≡ sent_ending events (reduced (context_after events last number) progress.script.issued) recorded → TaskEnds program events last number current task
  unfolding TaskEnds
  closes last number current task progress None named below state settled is ending = inl (reached progress (reduced (context_after events last number) progress.script.issued), is, ap stops ending, state, settled, below)
  closes last number current task progress (Some recorded) named below state settled is ending =
      let sent = reduced (context_after events last number) progress.script.issued in
      by (mismatch events sent recorded) is (ap stops ending ∙ differ_is events 1 sent recorded) (shown_is events 1 sent recorded)
    where
      by : (difference : Option Mismatch) → task_at program events last number current ≡ unless_mismatch number difference (reached progress []) → stops task.ending ≡ is_some difference
          → difference_from 1 (pairings events (reduced (context_after events last number) progress.script.issued) recorded) ≡ difference → TaskEnds program events last number current task
      by None is stop same = inl (reached progress [], is, stop, state, settled, below)
      by (Some difference) is stop same =
          let shown = pairings events (reduced (context_after events last number) progress.script.issued) recorded in
          inr (Mismatched number difference, is, stop, λ front. (front, task, shown, refl, named, ending, same))

  -- what the steps of a task leave
  abbrev pub left_of : (last number : ℕ) → ReplayResult S → ExplainedTask → Progress S
  left_of last number current task = record {
    state = state_after program current.state task.steps;
    script = record { settled = settled_after current.settled task.steps; issued = issued_in (context_after events last number) current.settled task.steps };
    meter = risen current.meter (length task.steps);
  }

  ends_by : (last number : ℕ) (current : ReplayResult S) (task : ExplainedTask) → current.meter ≤ top → IsTask program events last number current.state current.settled task → (fault : Option WorkflowFault) → fault_in (context_after events last number) current.settled [] task.steps ≡ fault
      → TaskEnds program events last number current task
  unfolding TaskEnds
  ends_by last number current task below t None none =
      let context = context_after events last number in
      let left = left_of last number current task in
      let done : task_at program events last number current ≡ task_after events context number (Ok left) = ap (task_after events context number) (activates last number current task below t ∙ ap (λ o. ok_unless o left) none) in
      let ending = t.ending ∙ ap (λ o. unless_refused o (sent_ending events (reduced context left.script.issued) context.recorded)) none in
      closes last number current task left context.recorded t.number (below_risen left.meter current.meter (length task.steps) refl) refl refl done ending
  ends_by last number current task below t (Some fault) some =
      let context = context_after events last number in
      let left = left_of last number current task in
      let done : task_at program events last number current ≡ task_after events context number (Err fault) = ap (task_after events context number) (activates last number current task below t ∙ ap (λ o. ok_unless o left) some) in
      let ending = t.ending ∙ ap (λ o. unless_refused o (sent_ending events (reduced context left.script.issued) context.recorded)) some in
      inr (WorkflowFaulty number fault, done, ap stops ending, λ front. (front, task, refl, t.number, ending))

  task_ends : (last number : ℕ) (current : ReplayResult S) (task : ExplainedTask) → current.meter ≤ top → IsTask program events last number current.state current.settled task → TaskEnds program events last number current task
  task_ends last number current task below t = ends_by last number current task below t (fault_in (context_after events last number) current.settled [] task.steps) refl

  stops_at : (last number : ℕ) (task : ExplainedTask) (current : ReplayResult S) → IsNext events last number → stops task.ending ≡ true → TaskEnds program events last number current task → EndAs (replay_after program (take last events) [] (drop last events) current) (task ∷ [])
  unfolding TaskEnds
  stops_at last number task current n stop ends =
      elim ends [
        | inl left ↦ absurd (unlike (stops task.ending) stop left.2)
        | inr fault ↦ subst (λ r. EndAs r (task ∷ [])) (sym (walk_next program events last number current n ∙ ap (λ r. and_then r (replay_after program (take number events) [] (drop number events))) fault.1)) (fault.3 [])
      ]

  goes_on : (last number : ℕ) (task : ExplainedTask) (more : List ExplainedTask) (current : ReplayResult S) → IsNext events last number → stops task.ending ≡ false → TaskEnds program events last number current task
      → ((left : ReplayResult S) → left.state ≡ state_after program current.state task.steps → left.settled ≡ settled_after current.settled task.steps → left.meter ≤ top → EndAs (replay_after program (take number events) [] (drop number events) left) more)
      → EndAs (replay_after program (take last events) [] (drop last events) current) (task ∷ more)
  unfolding TaskEnds
  goes_on last number task more current n pass ends later =
      elim ends [
        | inl left ↦ subst (λ r. EndAs r (task ∷ more)) (sym (walk_next program events last number current n ∙ ap (λ r. and_then r (replay_after program (take number events) [] (drop number events))) left.1))
            (longer (replay_after program (take number events) [] (drop number events) left.0) task more pass (later left.0 left.3 left.4 left.5))
        | inr fault ↦ absurd (unlike (stops task.ending) fault.2 pass)
      ]

  agrees : (last : ℕ) (numbers : List ℕ) (state : S) (settled : Settled) (tasks : List ExplainedTask) → AreTasks program events last numbers state settled tasks → fault_after [] events ≡ None → numbers ≡ cuts (drop last events) → last ≤ length events
      → (current : ReplayResult S) → current.state ≡ state → current.settled ≡ settled → current.meter ≤ top → EndAs (replay_after program (take last events) [] (drop last events) current) tasks
  agrees last numbers state settled tasks (all at from versions) placed counts low current a b below =
      let none : first_of (cuts (drop last events)) ≡ None = sym (ap first_of counts) in
      subst (λ r. EndAs r []) (sym (no_cut program (take last events) [] (drop last events) current none)) refl
  agrees last numbers state settled tasks (stopped at number rest from versions task t stop) placed counts low current a b below =
      let n = next_is events last number placed low (sym (ap first_of counts)) in
      let P : S → Type 0 = λ s. IsTask program events last number s versions task in
      let Q : Settled → Type 0 = λ v. IsTask program events last number current.state v task in
      stops_at last number task current n stop (task_ends last number current task below (subst Q (sym b) (subst P (sym a) t)))
  agrees last numbers state settled tasks (passed at number rest from versions task more t pass later) placed counts low current a b below =
      let n = next_is events last number placed low (sym (ap first_of counts)) in
      let P : S → Type 0 = λ s. IsTask program events last number s versions task in
      let Q : Settled → Type 0 = λ v. IsTask program events last number current.state v task in
      let same : rest ≡ cuts (drop number events) = (let both = counts ∙ n.counts in cc) in
      goes_on last number task more current n pass (task_ends last number current task below (subst Q (sym b) (subst P (sym a) t)))
      (λ left c d e. agrees number rest (state_after program from task.steps) (settled_after versions task.steps) more later placed same n.within left (c ∙ ap (λ s. state_after program s task.steps) a) (d ∙ ap (λ v. settled_after v task.steps) b) e)

in_place_after : (events : List Event) → history_fault events ≡ None → fault_after [] events ≡ None
in_place_after [] e = cc
in_place_after (event ∷ rest) e = e

-- the explanation of a history ends as its replay does
pub ends_as_replay : {S : Type 0} (program : Program S) → IsLawful program → EndsAsReplay program
unfolding replay_tasks
ends_as_replay program lawful events tasks placed known are =
    let P : Option (ℕ × PlaceFault) → Type 0 = λ fault. AreTasksPlaced (in_place fault events) program tasks in
    let Q : Bool → Type 0 = λ knows. AreTasksIf knows program events tasks in
    let R : Option (ℕ × PlaceFault) → Bool → Type 0 = λ fault knows. EndAs (replay_placed fault (replay_known knows (replay_after program [] [] events (start program (workflow_of events) 0)))) tasks in
    let told = subst Q known (subst P placed are) in
    let there = agrees program lawful events 0 (cuts events) (program.initial (workflow_of events)) [] tasks told (in_place_after events placed) refl (omega arith) (start program (workflow_of events) 0) refl refl (omega arith) in
    subst (λ fault. R fault (program.knows (workflow_of events))) (sym placed) (subst (R None) (sym known) there)
