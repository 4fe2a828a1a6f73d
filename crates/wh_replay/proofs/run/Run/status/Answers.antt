use Rattle.std.proofs.Common.{rules}
use Rattle.wh_replay.proofs.run.Run.status.Goals as goal

pub returns : goal.returns
returns g c = search rules
