use Rattle.std.proofs.Common.{rules}
use Rattle.wh_replay.proofs.run.Run.answer.Goals as goal

pub returns : goal.returns
returns g c = search rules
