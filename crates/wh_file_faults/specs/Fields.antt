-- The field that an event lacks.
use Rattle.std.specs.Prelude.{ℕ, ◌-◌, List, [], ◌∷◌, codes, Option, Some, None, Result, Ok, Err, option_and_then, option_map, slice_get}
use Rattle.serde_json.specs.Data.{Data}
use Rattle.wh_events.specs.Machines.{or_else}
use Rattle.wh_events.specs.declared.kind.EventKind.{EventKind}
use Rattle.wh_events.specs.declared.kind.EventKind.TheVariants as kinds
use Rattle.wh_json.specs.Events.{events_in}
use Rattle.wh_json.specs.Fields.{field, text_of}
use Rattle.wh_json.specs.Partial.{partial_event}
use Rattle.wh_json.specs.declared.fault.ReadFault.{ReadFault}
use Rattle.wh_file_faults.specs.declared.detail.FaultDetail.{FaultDetail}
use Rattle.wh_file_faults.specs.declared.detail.FaultDetail.TheVariants.{Lacks}

-- the name of a text, if the text is empty
abbrev pub if_empty : (text name : List ℕ) → Option (List ℕ)
if_empty [] name = Some name
if_empty (_ ∷ _) name = None

-- the first empty one of the texts that an event of the kind needs, by its path within the attributes
abbrev pub field_of_kind : EventKind → Option (List ℕ)
field_of_kind (kinds.WorkflowExecutionStarted workflow _) = if_empty workflow (codes "workflowType.name")
field_of_kind (kinds.ActivityTaskScheduled id activity) =
    or_else (if_empty id (codes "activityId")) (if_empty activity (codes "activityType.name"))
field_of_kind (kinds.TimerStarted id) = if_empty id (codes "timerId")
field_of_kind (kinds.StartChildWorkflowExecutionInitiated workflow_id workflow) =
    or_else (if_empty workflow_id (codes "workflowId")) (if_empty workflow (codes "workflowType.name"))
field_of_kind (kinds.RequestCancelExternalWorkflowExecutionInitiated workflow_id) =
    if_empty workflow_id (codes "workflowExecution.workflowId")
field_of_kind (kinds.SignalExternalWorkflowExecutionInitiated workflow_id signal) =
    or_else (if_empty workflow_id (codes "workflowExecution.workflowId")) (if_empty signal (codes "signalName"))
field_of_kind (kinds.WorkflowExecutionSignaled name _) = if_empty name (codes "signalName")
field_of_kind _ = None

-- the first of the texts that the event at a place needs and lacks: its time, or one within its attributes
abbrev pub field_of_member : ℕ → Data → Option (List ℕ)
field_of_member at d =
    or_else (if_empty (text_of (field (codes "eventTime") (Some d))) (codes "eventTime"))
    (option_and_then field_of_kind (partial_event at None d).kind)

-- what the event at a place, counted from 1, lacks, if there is one and it lacks something
abbrev pub lacks_at : List Data → ℕ → Option FaultDetail
lacks_at members at =
    option_map (λ field. Lacks at field) (option_and_then (field_of_member at) (slice_get members (at - 1)))

-- what the event at a place of a document lacks
abbrev pub lacks_in : Data → ℕ → Option FaultDetail
lacks_in d at = option_and_then (λ members. lacks_at members at) (events_in d)

-- what the event at a place lacks, if the bytes are a document
abbrev pub lacks : Result Data ReadFault → ℕ → Option FaultDetail
lacks (Ok d) at = lacks_in d at
lacks (Err fault) at = None
