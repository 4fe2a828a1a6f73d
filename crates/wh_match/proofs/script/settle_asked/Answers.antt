use Rattle.std.proofs.Common.{rules}
use Rattle.wh_match.proofs.script.settle_asked.Goals as goal

pub returns-clause-settled : goal.returns-clause-settled
returns-clause-settled c = search rules
