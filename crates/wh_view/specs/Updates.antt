-- Updates: the types of their events, and what attributes tell of an update.
use Rattle.std.specs.Prelude.{ℕ, ◌||◌, List, codes, Bool, bytes_eq, Option, Some, None, if◌then◌else◌}
use Rattle.serde_json.specs.Data.{Data}
use Rattle.wh_json.specs.Fields.{field}
use Rattle.wh_view.specs.Attributes.{or_other, inner, inner_text}
use Rattle.wh_view.specs.Details.{first_text}
use Rattle.wh_view.specs.declared.view.UpdateName.{UpdateName}
use Rattle.wh_view.specs.declared.view.UpdateStep.{UpdateStep}
use Rattle.wh_view.specs.declared.view.UpdateStep.TheVariants.{Admitted, Accepted, Rejected, Completed}

-- the plain name of the type of a step
abbrev pub name_of_step : UpdateStep → List ℕ
name_of_step Admitted = codes "WorkflowExecutionUpdateAdmitted"
name_of_step Accepted = codes "WorkflowExecutionUpdateAccepted"
name_of_step Rejected = codes "WorkflowExecutionUpdateRejected"
name_of_step Completed = codes "WorkflowExecutionUpdateCompleted"

-- its other spelling
abbrev pub spelling_of_step : UpdateStep → List ℕ
spelling_of_step Admitted = codes "EVENT_TYPE_WORKFLOW_EXECUTION_UPDATE_ADMITTED"
spelling_of_step Accepted = codes "EVENT_TYPE_WORKFLOW_EXECUTION_UPDATE_ACCEPTED"
spelling_of_step Rejected = codes "EVENT_TYPE_WORKFLOW_EXECUTION_UPDATE_REJECTED"
spelling_of_step Completed = codes "EVENT_TYPE_WORKFLOW_EXECUTION_UPDATE_COMPLETED"

-- the name is one of the two of the step's type
abbrev pub is_name_of : UpdateStep → List ℕ → Bool
is_name_of step name = bytes_eq name (name_of_step step) || bytes_eq name (spelling_of_step step)

-- the step that a type of this name stands for
unfoldable pub step_named : List ℕ → Option UpdateStep
step_named name =
    if is_name_of Accepted name then Some Accepted
    else (if is_name_of Completed name then Some Completed
    else (if is_name_of Rejected name then Some Rejected
    else (if is_name_of Admitted name then Some Admitted
    else None)))

-- the request of an update that attributes hold
abbrev pub request_in : Option Data → Option Data
request_in attributes =
    or_other (field (codes "acceptedRequest") attributes)
    (or_other (field (codes "rejectedRequest") attributes) (field (codes "request") attributes))

-- the arguments of an update that attributes hold
unfoldable pub arguments_in : Option Data → Option Data
arguments_in attributes = inner (codes "input") (codes "args") (request_in attributes)

-- the id of the update: that of the request, or else of the attributes' own metadata
abbrev pub id_in : Option Data → List ℕ
id_in attributes =
    first_text (inner_text (codes "meta") (codes "updateId") (request_in attributes))
    (inner_text (codes "meta") (codes "updateId") attributes)

-- the id and the name of the update of which attributes tell
abbrev pub update_of : Option Data → UpdateName
update_of attributes = record {
  id = id_in attributes;
  name = inner_text (codes "input") (codes "name") (request_in attributes);
}
