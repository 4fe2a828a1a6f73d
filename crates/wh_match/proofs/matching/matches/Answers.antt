use Rattle.std.proofs.Common.{rules}
use Rattle.wh_match.proofs.matching.matches.Goals as goal

pub returns-in-None : goal.returns-in-None
returns-in-None c = search rules
