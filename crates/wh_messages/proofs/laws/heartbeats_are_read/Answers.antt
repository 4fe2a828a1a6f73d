use Rattle.wh_messages.proofs.Heartbeating.{heartbeats_read}
use Rattle.wh_messages.proofs.laws.heartbeats_are_read.Goals as goal

pub returns : goal.returns
returns c = heartbeats_read
