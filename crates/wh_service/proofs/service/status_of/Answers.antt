use Rattle.std.proofs.Common.{rules}
use Rattle.wh_service.proofs.service.status_of.Goals as goal

pub returns-then-are_good : goal.returns-then-are_good
returns-then-are_good c = search rules
