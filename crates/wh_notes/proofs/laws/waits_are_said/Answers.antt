use Rattle.wh_notes.proofs.Waiting.{waits_double}
use Rattle.wh_notes.proofs.laws.waits_are_said.Goals as goal

pub returns : goal.returns
returns c = waits_double
