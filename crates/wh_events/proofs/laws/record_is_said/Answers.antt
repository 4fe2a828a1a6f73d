use Rattle.wh_events.proofs.Recording.{record_said}
use Rattle.wh_events.proofs.laws.record_is_said.Goals as goal

pub returns : goal.returns
returns c = record_said
