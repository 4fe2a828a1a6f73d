use Rattle.std.proofs.Common.{rules}
use Rattle.wh_machines.proofs.track.Track.len.Goals as goal

pub returns-clause-len : goal.returns-clause-len
returns-clause-len c = search rules
