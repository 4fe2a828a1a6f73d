use Rattle.std.proofs.Common.{rules}
use Rattle.wh_events.proofs.event.opened_under.Goals as goal

pub returns-in-CancelsChild : goal.returns-in-CancelsChild
returns-in-CancelsChild c = search rules
