-- The workflow task that a run waits for.
use Rattle.std.specs.Prelude.{ℕ, ◌+◌, List, [], ◌∷◌, Option, Some, None}
use Rattle.wh_events.specs.declared.kind.EventKind.{EventKind}
use Rattle.wh_events.specs.declared.kind.EventKind.TheVariants.{WorkflowTaskScheduled, WorkflowTaskStarted, WorkflowTaskCompleted, WorkflowTaskFailed, WorkflowTaskTimedOut}
use Rattle.wh_view.specs.declared.view.OpenTask.{OpenTask}
use Rattle.wh_view.specs.declared.view.ViewedEvent.{ViewedEvent}

-- the open workflow task, after a worker has started it at the index
abbrev pub started_at : Option OpenTask → ℕ → Option OpenTask
started_at None index = None
started_at (Some task) index = Some (record task { started = Some index })

-- the open workflow task, after it failed or timed out at the index: the server tries it again
abbrev pub failed_at : Option OpenTask → ℕ → Option OpenTask
failed_at None index = None
failed_at (Some task) index = Some (record task { started = None; failed = Some index })

-- the open workflow task after an event of the kind at the index: one that is scheduled is open until it is completed
abbrev pub task_after : Option OpenTask → ℕ → Option EventKind → Option OpenTask
task_after current index (Some WorkflowTaskScheduled) = Some (record { scheduled = index; started = None; failed = None })
task_after current index (Some WorkflowTaskStarted) = started_at current index
task_after current index (Some WorkflowTaskCompleted) = None
task_after current index (Some WorkflowTaskFailed) = failed_at current index
task_after current index (Some WorkflowTaskTimedOut) = failed_at current index
task_after current index _ = current

-- the open workflow task after further events, the first of them at the index
unfoldable pub open_from : ℕ → List ViewedEvent → Option OpenTask → Option OpenTask
open_from index [] current = current
open_from index (event ∷ events) current = open_from (index + 1) events (task_after current index event.read.kind)

-- the workflow task that is open after all events
abbrev pub open_task : List ViewedEvent → Option OpenTask
open_task events = open_from 0 events None
