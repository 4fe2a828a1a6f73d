use Rattle.std.proofs.Common.{rules}
use Rattle.wh_match.proofs.versions.Versions.get.Goals as goal

pub returns : goal.returns
returns c = search rules
