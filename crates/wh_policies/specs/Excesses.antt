-- Times of a policy that contradict each other.
use Rattle.std.specs.Prelude.{◌≡◌, ℕ, List, All, Bool, false, codes, nat_lt, Option, Some, None, if◌then◌else◌}
use Rattle.wh_policies.specs.declared.excess.Excess.{Excess}
use Rattle.wh_policies.specs.declared.excess.Excess.TheVariants.{InitialInterval, HeartbeatOfAttempt, Heartbeat}
use Rattle.wh_policies.specs.declared.policies.ActivityPolicy.{ActivityPolicy}
use Rattle.wh_policies.specs.declared.policies.ChildPolicy.{ChildPolicy}
use Rattle.wh_policies.specs.declared.policies.ContinuePolicy.{ContinuePolicy}
use Rattle.wh_policies.specs.declared.policies.Policies.{Policies}
use Rattle.wh_policies.specs.declared.policies.RetryPolicy.{RetryPolicy}
use Rattle.wh_policies.specs.declared.table.PolicyTable.{PolicyTable}

-- the time is above the other one, if both are given
abbrev pub exceeds : (time limit : Option ℕ) → Bool
exceeds (Some time) (Some limit) = nat_lt limit time
exceeds _ _ = false

-- the keys of the two times in a policy file
abbrev pub time_of : Excess → List ℕ
time_of InitialInterval = codes "retry.initial_interval"
time_of HeartbeatOfAttempt = codes "heartbeat"
time_of Heartbeat = codes "heartbeat"

abbrev pub limit_of : Excess → List ℕ
limit_of InitialInterval = codes "maximum_interval"
limit_of HeartbeatOfAttempt = codes "start_to_close"
limit_of Heartbeat = codes "schedule_to_close"

-- the first interval may not be above the greatest one
abbrev pub excess_of_retry : RetryPolicy → Option Excess
excess_of_retry retry = if exceeds retry.initial_interval retry.maximum_interval then Some InitialInterval else None

abbrev pub excess_of_retry_if_any : Option RetryPolicy → Option Excess
excess_of_retry_if_any None = None
excess_of_retry_if_any (Some retry) = excess_of_retry retry

-- the time between two heartbeats may not be above that of an attempt, nor above that of all attempts
abbrev pub excess_of_heartbeat : ActivityPolicy → Option Excess
excess_of_heartbeat policy =
    if exceeds policy.heartbeat (Some policy.start_to_close) then Some HeartbeatOfAttempt
    else (if exceeds policy.heartbeat policy.schedule_to_close then Some Heartbeat else None)

-- the first of the two
abbrev pub or_else : Option Excess → Option Excess → Option Excess
or_else (Some excess) other = Some excess
or_else None other = other

abbrev pub excess_of_activity : ActivityPolicy → Option Excess
excess_of_activity policy = or_else (excess_of_heartbeat policy) (excess_of_retry policy.retry)

abbrev pub excess_of_child : ChildPolicy → Option Excess
excess_of_child policy = excess_of_retry_if_any policy.retry

abbrev pub excess_of_continuation : ContinuePolicy → Option Excess
excess_of_continuation policy = excess_of_retry_if_any policy.retry

-- no policy of the table has an excess
pub record IsFree {P : Type 0} (excess : P → Option Excess) (table : PolicyTable P) : Type 0 where
  pub otherwise : excess table.otherwise ≡ None
  pub rows : All (λ row. excess row.policy ≡ None) table.rows

-- no policy has an excess
pub record AreFree (policies : Policies) : Type 0 where
  pub activities : IsFree excess_of_activity policies.activities
  pub children : IsFree excess_of_child policies.children
  pub continued : IsFree excess_of_continuation policies.continued
