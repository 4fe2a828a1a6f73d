-- How the options of a command are written.
use Rattle.std.specs.Prelude.{ℕ, ◌==◌, Float, List, [], ◌∷◌, Bool, true, false, codes, map, Option, Some, None, option_map, unwrap_or, if◌then◌else◌}
use Rattle.serde_json.specs.Data.{Data, array, boolean, no_members, null, number, object, string, unsigned}
use Rattle.serde_json.specs.Find.{of_float}
use Rattle.serde_json.specs.View.{items_of}
use Rattle.wh_policies.specs.declared.policies.ActivityPolicy.{ActivityPolicy}
use Rattle.wh_policies.specs.declared.policies.ChildPolicy.{ChildPolicy}
use Rattle.wh_policies.specs.declared.policies.ContinuePolicy.{ContinuePolicy}
use Rattle.wh_policies.specs.declared.policies.FailurePolicy.{FailurePolicy}
use Rattle.wh_policies.specs.declared.policies.IdReusePolicy.{IdReusePolicy}
use Rattle.wh_policies.specs.declared.policies.IdReusePolicy.TheVariants.{AllowDuplicate, AllowDuplicateFailedOnly, RejectDuplicate}
use Rattle.wh_policies.specs.declared.policies.ParentClosePolicy.{ParentClosePolicy}
use Rattle.wh_policies.specs.declared.policies.ParentClosePolicy.TheVariants.{Terminate, Abandon, RequestCancel}
use Rattle.wh_policies.specs.declared.policies.RetryPolicy.{RetryPolicy}
use Rattle.wh_commands.specs.declared.names.WorkerNames.{WorkerNames}
use Rattle.wh_commands.specs.Durations.{duration_text}
use Rattle.wh_commands.specs.Objects.{put_given}

-- the Task Queue that the policy sets, otherwise the one that all workers poll
abbrev pub queue_asked : WorkerNames → Option (List ℕ) → List ℕ
queue_asked names None = names.task_queue
queue_asked names (Some queue) = queue

abbrev pub seconds_written : ℕ → Data
seconds_written seconds = string (duration_text seconds)

-- a number; null if it is not finite, which servers read as a missing value
abbrev pub float_written : Float → Data
float_written x = unwrap_or (option_map number (of_float x)) null

-- the texts, if there are any
abbrev pub texts_given : List (List ℕ) → Option Data
texts_given [] = None
texts_given (text ∷ texts) = Some (array (items_of (map string (text ∷ texts))))

-- the maximum number of attempts; 0 is not sent, since a server reads a missing one as 0
abbrev pub attempts_asked : ℕ → Option Data
attempts_asked attempts = if attempts == 0 then None else Some (number (unsigned attempts))

-- the options of a retry policy
abbrev pub retry_asked : RetryPolicy → List (List ℕ × Option Data)
retry_asked retry =
    (codes "maximumAttempts", attempts_asked retry.maximum_attempts)
    ∷ (codes "initialInterval", option_map seconds_written retry.initial_interval)
    ∷ (codes "maximumInterval", option_map seconds_written retry.maximum_interval)
    ∷ (codes "backoffCoefficient", option_map float_written retry.backoff_coefficient)
    ∷ (codes "nonRetryableErrorTypes", texts_given retry.non_retryable) ∷ []

-- a retry policy
abbrev pub retry_written : RetryPolicy → Data
retry_written retry = object (put_given (retry_asked retry) no_members)

-- the timeouts of an activity except the Start-To-Close Timeout
abbrev pub activity_asked : ActivityPolicy → List (List ℕ × Option Data)
activity_asked policy =
    (codes "scheduleToStartTimeout", option_map seconds_written policy.schedule_to_start)
    ∷ (codes "scheduleToCloseTimeout", option_map seconds_written policy.schedule_to_close)
    ∷ (codes "heartbeatTimeout", option_map seconds_written policy.heartbeat) ∷ []

abbrev pub parent_close_name : ParentClosePolicy → List ℕ
parent_close_name Terminate = codes "PARENT_CLOSE_POLICY_TERMINATE"
parent_close_name Abandon = codes "PARENT_CLOSE_POLICY_ABANDON"
parent_close_name RequestCancel = codes "PARENT_CLOSE_POLICY_REQUEST_CANCEL"

abbrev pub id_reuse_name : IdReusePolicy → List ℕ
id_reuse_name AllowDuplicate = codes "WORKFLOW_ID_REUSE_POLICY_ALLOW_DUPLICATE"
id_reuse_name AllowDuplicateFailedOnly = codes "WORKFLOW_ID_REUSE_POLICY_ALLOW_DUPLICATE_FAILED_ONLY"
id_reuse_name RejectDuplicate = codes "WORKFLOW_ID_REUSE_POLICY_REJECT_DUPLICATE"

-- the options of a child workflow
abbrev pub child_asked : ChildPolicy → List (List ℕ × Option Data)
child_asked policy =
    (codes "workflowExecutionTimeout", option_map seconds_written policy.execution_timeout)
    ∷ (codes "workflowRunTimeout", option_map seconds_written policy.run_timeout)
    ∷ (codes "workflowTaskTimeout", option_map seconds_written policy.task_timeout)
    ∷ (codes "parentClosePolicy", option_map (λ p. string (parent_close_name p)) policy.parent_close)
    ∷ (codes "workflowIdReusePolicy", option_map (λ p. string (id_reuse_name p)) policy.id_reuse)
    ∷ (codes "retryPolicy", option_map retry_written policy.retry) ∷ []

-- the options of a run that continues another as new
abbrev pub continued_asked : ContinuePolicy → List (List ℕ × Option Data)
continued_asked policy =
    (codes "workflowRunTimeout", option_map seconds_written policy.run_timeout)
    ∷ (codes "workflowTaskTimeout", option_map seconds_written policy.task_timeout)
    ∷ (codes "retryPolicy", option_map retry_written policy.retry) ∷ []

-- the mark of a failure that is not retried, if it is not
abbrev pub non_retryable : Bool → Option Data
non_retryable true = None
non_retryable false = Some (boolean true)

-- the info of a failure
abbrev pub failure_asked : FailurePolicy → List (List ℕ × Option Data)
failure_asked policy =
    (codes "type", option_map string policy.failure_type) ∷ (codes "nonRetryable", non_retryable policy.retryable) ∷ []

abbrev pub failure_info : FailurePolicy → Data
failure_info policy = object (put_given (failure_asked policy) no_members)

-- the info of a failure of a type, if it has one, with the mark if it is not retried
abbrev pub info_of : Option (List ℕ) → Bool → Data
info_of failure_type retryable = failure_info (record { failure_type = failure_type; retryable = retryable })
