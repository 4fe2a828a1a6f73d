use Rattle.std.proofs.Common.{rules}
use Rattle.wh_events.proofs.event.Payload.try_copy.Goals as goal

pub returns : goal.returns
returns c = search rules
