use Rattle.std.proofs.Common.{rules}
use Rattle.wh_machines.proofs.track.Track.into_events.Goals as goal

pub returns : goal.returns
returns c = search rules
