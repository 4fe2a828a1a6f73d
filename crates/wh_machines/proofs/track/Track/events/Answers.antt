use Rattle.std.proofs.Common.{rules}
use Rattle.wh_machines.proofs.track.Track.events.Goals as goal

pub returns-clause-events : goal.returns-clause-events
returns-clause-events c = search rules
