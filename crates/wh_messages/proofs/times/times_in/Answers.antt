use Rattle.std.proofs.Common.{◌≡◌, ℕ, Option, refl}
use Rattle.serde_json.specs.View.{view}
use Rattle.wh_tasks.specs.declared.activity_info.ActivityTimes.{ActivityTimes}
use Rattle.wh_messages.specs.Times.{times_in}
use Rattle.wh_messages.proofs.times.times_in.Goals as goal

-- the times that were read are those of the record
times_made : (times : ActivityTimes) (scheduled attempt_scheduled started heartbeat_timeout start_to_close schedule_to_close : Option ℕ)
    → scheduled ≡ times.scheduled → attempt_scheduled ≡ times.attempt_scheduled → started ≡ times.started
    → heartbeat_timeout ≡ times.heartbeat_timeout → start_to_close ≡ times.start_to_close → schedule_to_close ≡ times.schedule_to_close
    → record {
      scheduled = scheduled;
      attempt_scheduled = attempt_scheduled;
      started = started;
      heartbeat_timeout = heartbeat_timeout;
      start_to_close = start_to_close;
      schedule_to_close = schedule_to_close;
    } ≡ times
times_made times scheduled attempt_scheduled started heartbeat_timeout start_to_close schedule_to_close a b c d e f = rw (a, b, c, d, e, f) refl

pub returns : goal.returns
returns c =
    times_made (times_in (view c.args.value.now)) _ _ _ _ _ _ c.instant_at.ensures c.instant_at-2.ensures c.instant_at-3.ensures
    c.timeout_at.ensures c.timeout_at-2.ensures c.timeout_at-3.ensures
