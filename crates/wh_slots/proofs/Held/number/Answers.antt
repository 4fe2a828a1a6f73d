use Rattle.std.proofs.Common.{rules}
use Rattle.wh_slots.proofs.Held.number.Goals as goal

pub returns : goal.returns
returns c = search rules
