use Rattle.std.proofs.Common.{rules}
use Rattle.wh_match.proofs.choosing.choose.Goals as goal

pub returns-in-None : goal.returns-in-None
returns-in-None c = search rules
