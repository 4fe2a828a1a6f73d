-- Failures with their causes, and what else attributes say of an ending.
use Rattle.std.specs.Prelude.{ℕ, zero, suc, List, [], ◌∷◌, codes, Option, Some, None}
use Rattle.serde_json.specs.Data.{Data}
use Rattle.wh_json.specs.Fields.{field}
use Rattle.wh_view.specs.Attributes.{or_other, inner, text, inner_text}
use Rattle.wh_view.specs.Details.{first_text}
use Rattle.wh_view.specs.declared.view.Ending.{Ending}
use Rattle.wh_view.specs.declared.view.ViewedFailure.{ViewedFailure}

-- the type of a failure: that of an Application Failure, or else the type of a timeout
abbrev pub kind_of : Option Data → List ℕ
kind_of failure =
    first_text (inner_text (codes "applicationFailureInfo") (codes "type") failure)
    (inner_text (codes "timeoutFailureInfo") (codes "timeoutType") failure)

-- a failure, without its cause
abbrev pub failure_at : Data → ViewedFailure
failure_at d = record {
  kind = kind_of (Some d);
  message = text (codes "message") (Some d);
  stack_trace = text (codes "stackTrace") (Some d);
}

-- a failure, its cause, the cause of that one and so on, at most so many
unfoldable pub failures_from : (most : ℕ) → Option Data → List ViewedFailure
failures_from zero failure = []
failures_from (suc most) None = []
failures_from (suc most) (Some d) = failure_at d ∷ failures_from most (field (codes "cause") (Some d))

-- the failure of an event, or else that of its last attempt, or else that of an update
abbrev pub outermost : Option Data → Option Data
outermost attributes =
    or_other (field (codes "failure") attributes)
    (or_other (field (codes "lastFailure") attributes) (inner (codes "outcome") (codes "failure") attributes))

-- the failure of an event and its causes, at most 16
abbrev pub failures_of : Option Data → List ViewedFailure
failures_of attributes = failures_from 16 (outermost attributes)

-- why something ended
abbrev pub ending_of : Option Data → Ending
ending_of attributes = record {
  retry_state = text (codes "retryState") attributes;
  timeout_type = text (codes "timeoutType") attributes;
  cause = text (codes "cause") attributes;
  next_run_id = text (codes "newExecutionRunId") attributes;
}
