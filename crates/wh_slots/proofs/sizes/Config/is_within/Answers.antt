use Rattle.std.proofs.Common.{rules}
use Rattle.wh_slots.proofs.sizes.Config.is_within.Goals as goal

pub returns-then-self-gt0-3 : goal.returns-then-self-gt0-3
returns-then-self-gt0-3 c = search rules
