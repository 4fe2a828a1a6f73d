use Rattle.std.proofs.Common.{refl}
use Rattle.wh_json.specs.Fields.{field, number_in}
use Rattle.wh_messages.proofs.laws.times_are_read.Goals as goal

pub returns : goal.returns
unfolding field number_in
returns c = record {
  named = λ scheduled attempt_scheduled started heartbeat start_to_close schedule_to_close. refl;
  absent = refl;
  unset = refl;
  seconds = refl;
  longest = refl;
  longer = refl;
  milliseconds = refl;
  microseconds = refl;
  nanoseconds = refl;
  negative = refl;
}
