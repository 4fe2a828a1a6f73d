use Rattle.std.proofs.Common.{rules}
use Rattle.wh_slots.proofs.Slots.drain.Goals as goal

pub returns : goal.returns
returns c = search rules
