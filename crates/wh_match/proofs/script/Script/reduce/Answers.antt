use Rattle.std.proofs.Common.{rules}
use Rattle.wh_match.proofs.script.Script.reduce.Goals as goal

pub returns : goal.returns
returns c = search rules
