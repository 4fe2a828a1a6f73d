use Rattle.std.proofs.Common.{arith}
use Rattle.std.proofs.lemmas.Grind.{text_groups}
use Rattle.wh_times.proofs.sums.groups_of.Goals as goal

pub loop-typed-preserved : goal.loop-typed-preserved
loop-typed-preserved c = grind (arith, text_groups)
