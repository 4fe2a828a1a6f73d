-- Policies that leave to the server whatever they can.
use Rattle.std.specs.Prelude.{ℕ, [], None, true}
use Rattle.wh_policies.specs.declared.policies.RetryPolicy.{RetryPolicy}
use Rattle.wh_policies.specs.declared.policies.ActivityPolicy.{ActivityPolicy}
use Rattle.wh_policies.specs.declared.policies.ChildPolicy.{ChildPolicy}
use Rattle.wh_policies.specs.declared.policies.ContinuePolicy.{ContinuePolicy}
use Rattle.wh_policies.specs.declared.policies.FailurePolicy.{FailurePolicy}
use Rattle.wh_policies.specs.declared.policies.Policies.{Policies}

-- at most this many attempts
abbrev pub retry : ℕ → RetryPolicy
retry attempts = record {
  maximum_attempts = attempts;
  initial_interval = None;
  maximum_interval = None;
  backoff_coefficient = None;
  non_retryable = [];
}

-- this Start-To-Close Timeout in seconds, and at most this many attempts
abbrev pub activity : ℕ → ℕ → ActivityPolicy
activity seconds attempts = record {
  task_queue = None;
  schedule_to_start = None;
  start_to_close = seconds;
  schedule_to_close = None;
  heartbeat = None;
  retry = retry attempts;
}

abbrev pub child : ChildPolicy
child = record {
  task_queue = None;
  execution_timeout = None;
  run_timeout = None;
  task_timeout = None;
  parent_close = None;
  id_reuse = None;
  retry = None;
}

-- a failure without a type, after which a run may be retried
abbrev pub failure : FailurePolicy
failure = record { failure_type = None; retryable = true }

abbrev pub continued : ContinuePolicy
continued = record { task_queue = None; run_timeout = None; task_timeout = None; retry = None }

-- for each activity this Start-To-Close Timeout in seconds and at most this many attempts; nothing else, and no row
abbrev pub policies : ℕ → ℕ → Policies
policies seconds attempts = record {
  activities = record { rows = []; otherwise = activity seconds attempts };
  children = record { rows = []; otherwise = child };
  failures = record { rows = []; otherwise = failure };
  continued = record { rows = []; otherwise = continued };
}
