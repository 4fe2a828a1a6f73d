-- How the policies of each kind are read from a table.
use Rattle.std.specs.Prelude.{◌≡◌, ℕ, List, Bool, ◌||◌, bytes_eq, codes, Option, Some, None, if◌then◌else◌}
use Rattle.toml.specs.Data.{Data, Members, as_str, get_member}
use Rattle.wh_policies.specs.declared.policies.ActivityPolicy.{ActivityPolicy}
use Rattle.wh_policies.specs.declared.policies.ChildPolicy.{ChildPolicy}
use Rattle.wh_policies.specs.declared.policies.ContinuePolicy.{ContinuePolicy}
use Rattle.wh_policies.specs.declared.policies.FailurePolicy.{FailurePolicy}
use Rattle.wh_policies.specs.declared.policies.IdReusePolicy.{IdReusePolicy}
use Rattle.wh_policies.specs.declared.policies.IdReusePolicy.TheVariants.{AllowDuplicate, AllowDuplicateFailedOnly, RejectDuplicate}
use Rattle.wh_policies.specs.declared.policies.ParentClosePolicy.{ParentClosePolicy}
use Rattle.wh_policies.specs.declared.policies.ParentClosePolicy.TheVariants.{Terminate, Abandon, RequestCancel}
use Rattle.wh_policies.specs.Fields.{GivesNumber, GivesQueue, GivesSeconds, GivesText, GivesTruth}
use Rattle.wh_policies.specs.Retries.{GivesRetryAt, GivesRetryIfAny}

abbrev pub knows_activity : List ℕ → Bool
knows_activity key =
    bytes_eq key (codes "task_queue") || (bytes_eq key (codes "schedule_to_start")
    || (bytes_eq key (codes "start_to_close") || (bytes_eq key (codes "schedule_to_close")
    || (bytes_eq key (codes "heartbeat") || bytes_eq key (codes "retry")))))

pub record GivesActivity (members : Members) (otherwise policy : ActivityPolicy) : Type 0 where
  pub queue : GivesQueue otherwise.task_queue (get_member (codes "task_queue") members) policy.task_queue
  pub to_start : GivesSeconds otherwise.schedule_to_start
      (get_member (codes "schedule_to_start") members) policy.schedule_to_start
  pub attempt : GivesNumber 1 4294967295 otherwise.start_to_close
      (get_member (codes "start_to_close") members) policy.start_to_close
  pub to_close : GivesSeconds otherwise.schedule_to_close
      (get_member (codes "schedule_to_close") members) policy.schedule_to_close
  pub heartbeat : GivesSeconds otherwise.heartbeat (get_member (codes "heartbeat") members) policy.heartbeat
  pub retry : GivesRetryAt otherwise.retry (get_member (codes "retry") members) policy.retry

abbrev pub close_named : List ℕ → Option ParentClosePolicy
close_named text =
    if bytes_eq text (codes "terminate") then Some Terminate
    else (if bytes_eq text (codes "abandon") then Some Abandon
    else (if bytes_eq text (codes "request_cancel") then Some RequestCancel else None))

abbrev pub GivesClose : Option ParentClosePolicy → Option Data → Option ParentClosePolicy → Type 0
GivesClose otherwise None policy = policy ≡ otherwise
GivesClose otherwise (Some value) policy =
    (text : List ℕ) × (p : ParentClosePolicy) × (as_str value ≡ Some text)
    × (close_named text ≡ Some p) × (policy ≡ Some p)

abbrev pub reuse_named : List ℕ → Option IdReusePolicy
reuse_named text =
    if bytes_eq text (codes "allow_duplicate") then Some AllowDuplicate
    else (if bytes_eq text (codes "allow_duplicate_failed_only") then Some AllowDuplicateFailedOnly
    else (if bytes_eq text (codes "reject_duplicate") then Some RejectDuplicate else None))

abbrev pub GivesReuse : Option IdReusePolicy → Option Data → Option IdReusePolicy → Type 0
GivesReuse otherwise None policy = policy ≡ otherwise
GivesReuse otherwise (Some value) policy =
    (text : List ℕ) × (p : IdReusePolicy) × (as_str value ≡ Some text)
    × (reuse_named text ≡ Some p) × (policy ≡ Some p)

abbrev pub knows_child : List ℕ → Bool
knows_child key =
    bytes_eq key (codes "task_queue") || (bytes_eq key (codes "execution_timeout")
    || (bytes_eq key (codes "run_timeout") || (bytes_eq key (codes "task_timeout")
    || (bytes_eq key (codes "parent_close") || (bytes_eq key (codes "id_reuse") || bytes_eq key (codes "retry"))))))

pub record GivesChild (members : Members) (otherwise policy : ChildPolicy) : Type 0 where
  pub queue : GivesQueue otherwise.task_queue (get_member (codes "task_queue") members) policy.task_queue
  pub execution : GivesSeconds otherwise.execution_timeout
      (get_member (codes "execution_timeout") members) policy.execution_timeout
  pub run : GivesSeconds otherwise.run_timeout (get_member (codes "run_timeout") members) policy.run_timeout
  pub task : GivesSeconds otherwise.task_timeout (get_member (codes "task_timeout") members) policy.task_timeout
  pub parent_close : GivesClose otherwise.parent_close (get_member (codes "parent_close") members) policy.parent_close
  pub id_reuse : GivesReuse otherwise.id_reuse (get_member (codes "id_reuse") members) policy.id_reuse
  pub retry : GivesRetryIfAny otherwise.retry (get_member (codes "retry") members) policy.retry

abbrev pub knows_failure : List ℕ → Bool
knows_failure key = bytes_eq key (codes "type") || bytes_eq key (codes "retryable")

pub record GivesFailure (members : Members) (otherwise policy : FailurePolicy) : Type 0 where
  pub failure_type : GivesText otherwise.failure_type (get_member (codes "type") members) policy.failure_type
  pub retryable : GivesTruth otherwise.retryable (get_member (codes "retryable") members) policy.retryable

abbrev pub knows_continuation : List ℕ → Bool
knows_continuation key =
    bytes_eq key (codes "task_queue") || (bytes_eq key (codes "run_timeout")
    || (bytes_eq key (codes "task_timeout") || bytes_eq key (codes "retry")))

pub record GivesContinuation (members : Members) (otherwise policy : ContinuePolicy) : Type 0 where
  pub queue : GivesQueue otherwise.task_queue (get_member (codes "task_queue") members) policy.task_queue
  pub run : GivesSeconds otherwise.run_timeout (get_member (codes "run_timeout") members) policy.run_timeout
  pub task : GivesSeconds otherwise.task_timeout (get_member (codes "task_timeout") members) policy.task_timeout
  pub retry : GivesRetryIfAny otherwise.retry (get_member (codes "retry") members) policy.retry
