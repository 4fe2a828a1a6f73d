-- What else the attributes of an event say.
use Rattle.std.specs.Prelude.{ℕ, codes, Option, option_and_then, unwrap_or}
use Rattle.serde_json.specs.Data.{Data}
use Rattle.wh_json.specs.Fields.{field, number_of}
use Rattle.wh_markers.specs.Markers.{marker_of}
use Rattle.wh_view.specs.Attributes.{inner_text}
use Rattle.wh_view.specs.Failures.{failures_of, ending_of}
use Rattle.wh_view.specs.Updates.{update_of}
use Rattle.wh_view.specs.declared.view.EventDetails.{EventDetails as Kept}

-- the number of the event that completed the task in which the workflow gave an event; 0 if its attributes name none
abbrev pub task_event : Option Data → ℕ
task_event attributes =
    unwrap_or (option_and_then number_of (field (codes "workflowTaskCompletedEventId") attributes)) 0

-- what else the attributes of an event say
abbrev pub details_of : Option Data → Kept
details_of attributes = record {
  task_event = task_event attributes;
  update = update_of attributes;
  failures = failures_of attributes;
  ending = ending_of attributes;
  marker = marker_of attributes;
  execution_run_id = inner_text (codes "workflowExecution") (codes "runId") attributes;
}
