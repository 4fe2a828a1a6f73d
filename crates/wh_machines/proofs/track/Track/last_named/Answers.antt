use Rattle.std.proofs.Common.{rules}
use Rattle.wh_machines.proofs.track.Track.last_named.Goals as goal

pub returns : goal.returns
returns c = search rules
