use Rattle.std.proofs.Common.{arith}
use Rattle.std.proofs.lemmas.Grind.{common_steps}
use Rattle.wh_view_report.proofs.text.completed_count.Goals as goal

pub returns : goal.returns
returns c = grind (arith, common_steps)
