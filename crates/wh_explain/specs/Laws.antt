-- What holds for every explanation.
use Rattle.std.specs.Prelude.{◌≡◌, ℕ, true, false, List, [], ◌∷◌, ◌++◌, Some, None, Result, Ok, Err}
use Rattle.std.specs.List.{list_any}
use Rattle.wh_events.specs.declared.event.Event.{Event}
use Rattle.wh_events.specs.Places.{history_fault}
use Rattle.wh_workflow.specs.declared.fault.Mismatch.{Mismatch as Difference}
use Rattle.wh_workflow.specs.Law.{Program}
use Rattle.wh_replay.specs.declared.fault.Fault.{Fault}
use Rattle.wh_replay.specs.declared.fault.Fault.TheVariants.{NotATask, Place, Workflow, Mismatch}
use Rattle.wh_replay.specs.Replays.{ReplayResult, workflow_of, replay_tasks}
use Rattle.wh_explained_tasks.specs.declared.Ending.TheVariants.{Refused, Recorded}
use Rattle.wh_explained_tasks.specs.declared.Pairing.{Pairing}
use Rattle.wh_explained_tasks.specs.declared.ExplainedTask.{ExplainedTask}
use Rattle.wh_explain.specs.Pairings.{difference_from}
use Rattle.wh_explain.specs.Explaining.{stops, AreTasksOf}

-- the last of the tasks has this number, and one of its commands is invalid
abbrev pub EndsRefused : ℕ → List ExplainedTask → Type 0
EndsRefused at tasks =
    (front : List ExplainedTask) × (task : ExplainedTask) × (tasks ≡ front ++ task ∷ []) × (task.at ≡ at)
    × (task.ending ≡ Refused)

-- the last of the tasks has this number, and the first difference that it shows between the commands that are sent and
-- the record is the mismatch
abbrev pub EndsDifferent : ℕ → Difference → List ExplainedTask → Type 0
EndsDifferent at mismatch tasks =
    (front : List ExplainedTask) × (task : ExplainedTask) × (pairings : List Pairing) × (tasks ≡ front ++ task ∷ [])
    × (task.at ≡ at) × (task.ending ≡ Recorded pairings) × (difference_from 1 pairings ≡ Some mismatch)

module _ {S : Type 0} where
  -- the tasks end as the replay does: if it has no fault, none of them stops, and else the last one stops at the fault
  abbrev pub EndAs : Result (ReplayResult S) Fault → List ExplainedTask → Type 0
  EndAs (Ok left) tasks = list_any (λ task. stops task.ending) tasks ≡ false
  EndAs (Err (Workflow at fault)) tasks = EndsRefused at tasks
  EndAs (Err (Mismatch at mismatch)) tasks = EndsDifferent at mismatch tasks
  EndAs (Err (Place at fault)) tasks = ⊥
  EndAs (Err NotATask) tasks = ⊥

  -- a history has only one explanation
  abbrev pub OneExplains : Program S → Type 0
  OneExplains program =
      (events : List Event) (tasks other : List ExplainedTask)
      → AreTasksOf program events tasks → AreTasksOf program events other → tasks ≡ other

  -- the explanation of a history in place whose workflow type is registered ends as its replay does
  abbrev pub EndsAsReplay : Program S → Type 0
  EndsAsReplay program =
      (events : List Event) (tasks : List ExplainedTask)
      → history_fault events ≡ None → program.knows (workflow_of events) ≡ true → AreTasksOf program events tasks
      → EndAs (replay_tasks program events 0) tasks
