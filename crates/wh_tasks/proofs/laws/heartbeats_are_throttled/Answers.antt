use Rattle.wh_tasks.proofs.Throttled.{cancel_is_told, end_sends_last, first_is_sent, last_details_are_held, none_after_end, nothing_is_lost, sends_apart}
use Rattle.wh_tasks.proofs.laws.heartbeats_are_throttled.Goals as goal

pub returns : goal.returns
returns c = record {
  first = first_is_sent;
  apart = sends_apart;
  last = last_details_are_held;
  end = end_sends_last;
  over = none_after_end;
  lost = nothing_is_lost;
  canceled = cancel_is_told;
}
