-- The tasks that an inbox delivers, and the histories that it returns.
use Rattle.std.specs.Prelude.{◌≡◌, ℕ, List, [], ◌∷◌, ◌++◌, Some, slice_get, filter, leb, if◌then◌else◌}
use Rattle.wh_events.specs.declared.event.Event.{Event}
use Rattle.wh_events.specs.declared.key.RunKey.{RunKey}
use Rattle.wh_events.specs.Keys.{same_key}
use Rattle.wh_tasks.specs.declared.source.WorkflowTask.{WorkflowTask}
use Rattle.wh_tasks.specs.declared.source.ActivityTask.{ActivityTask}
use Rattle.wh_tasks.specs.Source.{Delivery, Workflow, Activity}

-- the task stands in the list
abbrev pub StandsIn : {T : Type 0} → List T → T → Type 0
StandsIn tasks task = (place : ℕ) × (slice_get tasks place ≡ Some task)

-- the delivered tasks stand in the lists of their kinds
abbrev pub Gives : List WorkflowTask → List ActivityTask → Delivery → Type 0
Gives workflow_tasks activity_tasks (Workflow task) = StandsIn workflow_tasks task
Gives workflow_tasks activity_tasks (Activity task) = StandsIn activity_tasks task

-- the events up to a number
abbrev pub events_up_to : ℕ → List Event → List Event
events_up_to up_to events = filter (λ event. leb event.number up_to) events

-- the history of a run up to a number: the events of its tasks, one after the other
abbrev pub told : RunKey → ℕ → List WorkflowTask → List Event
told key up_to [] = []
told key up_to (task ∷ rest) =
    if same_key task.run key then events_up_to up_to task.events ++ told key up_to rest else told key up_to rest
