-- The names of a run, and how it was closed.
use Rattle.std.specs.Prelude.{ℕ, List, [], ◌∷◌, codes, Bool, is_some, Option, Some, None, option_and_then, unwrap_or, if◌then◌else◌}
use Rattle.serde_json.specs.Data.{Data}
use Rattle.wh_events.specs.declared.kind.EventKind.{EventKind}
use Rattle.wh_events.specs.declared.kind.EventKind.TheVariants as kinds
use Rattle.wh_json.specs.Fields.{field}
use Rattle.wh_view.specs.Attributes.{text, inner_text}
use Rattle.wh_view.specs.declared.view.RunNames.{RunNames}
use Rattle.wh_view.specs.declared.view.RunStatus.{RunStatus}
use Rattle.wh_view.specs.declared.view.RunStatus.TheVariants.{Running, Completed, Failed, Canceled, Terminated, TimedOut, ContinuedAsNew}
use Rattle.wh_view.specs.declared.view.ViewedEvent.{ViewedEvent}

-- the attributes with which the first of the members starts a run
abbrev pub start_in : List Data → Option Data
start_in [] = None
start_in (d ∷ ds) = field (codes "workflowExecutionStartedEventAttributes") (Some d)

-- the names of the run that these attributes start
abbrev pub names_of : Option Data → RunNames
names_of start = record {
  workflow_id = text (codes "workflowId") start;
  run_id = text (codes "originalExecutionRunId") start;
  task_queue = inner_text (codes "taskQueue") (codes "name") start;
  parent_workflow_id = inner_text (codes "parentWorkflowExecution") (codes "workflowId") start;
  parent_run_id = inner_text (codes "parentWorkflowExecution") (codes "runId") start;
  previous_run_id = text (codes "continuedExecutionRunId") start;
}

-- the names of the run whose events the members are
abbrev pub run_of : List Data → RunNames
run_of members = names_of (start_in members)

-- the status of a run that an event of the kind closes
abbrev pub status_by : EventKind → Option RunStatus
status_by kinds.WorkflowExecutionCompleted = Some Completed
status_by kinds.WorkflowExecutionFailed = Some Failed
status_by kinds.WorkflowExecutionCanceled = Some Canceled
status_by kinds.WorkflowExecutionTerminated = Some Terminated
status_by kinds.WorkflowExecutionTimedOut = Some TimedOut
status_by kinds.WorkflowExecutionContinuedAsNew = Some ContinuedAsNew
status_by _ = None

-- the status of the run that an event closes
abbrev pub closes_as : ViewedEvent → Option RunStatus
closes_as event = option_and_then status_by event.read.kind

-- an event closes the run
abbrev pub closes_run : ViewedEvent → Bool
closes_run event = is_some (closes_as event)

-- the first of the events that closes the run
unfoldable pub closing_in : List ViewedEvent → Option ViewedEvent
closing_in [] = None
closing_in (event ∷ events) = if closes_run event then Some event else closing_in events

-- the run is open, or was closed by the first event that closes it
abbrev pub status_of : List ViewedEvent → RunStatus
status_of events = unwrap_or (option_and_then closes_as (closing_in events)) Running
