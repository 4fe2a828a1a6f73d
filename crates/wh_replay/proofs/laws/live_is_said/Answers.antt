use Rattle.wh_replay.proofs.Living.{live_place_is_said, live_end_is_said}
use Rattle.wh_replay.proofs.laws.live_is_said.Goals as goal

pub returns-clause-place : goal.returns-clause-place
returns-clause-place c = live_place_is_said

pub returns-clause-end : goal.returns-clause-end
returns-clause-end c = live_end_is_said
