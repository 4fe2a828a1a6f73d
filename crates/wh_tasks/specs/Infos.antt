-- What the response to a poll says of an activity task.
use Rattle.std.specs.Prelude.{None}
use Rattle.wh_tasks.specs.declared.activity_info.ActivityInfo.{ActivityInfo}
use Rattle.wh_tasks.specs.declared.activity_info.ActivityTimes.{ActivityTimes}

-- no time is told
abbrev pub no_times : ActivityTimes
no_times = record {
  scheduled = None;
  attempt_scheduled = None;
  started = None;
  heartbeat_timeout = None;
  start_to_close = None;
  schedule_to_close = None;
}

-- a first attempt: there are no details of an earlier one, and no time is told
abbrev pub first_attempt : ActivityInfo
first_attempt = record { attempt = 1; heartbeat_details = None; times = no_times }
