use Rattle.std.proofs.Common.{rules}
use Rattle.wh_machines.proofs.opening.Opening.status_up_to.Goals as goal

pub returns-then-is_some : goal.returns-then-is_some
returns-then-is_some c = search rules

pub returns-else-is_some-2 : goal.returns-else-is_some-2
returns-else-is_some-2 c = search rules
