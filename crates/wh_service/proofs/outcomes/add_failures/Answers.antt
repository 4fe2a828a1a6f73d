use Rattle.std.proofs.Common.{arith, rules}
use Rattle.std.proofs.lemmas.Grind.{common_steps}
use Rattle.wh_service.proofs.outcomes.add_failures.Goals as goal

pub returns-in_default : goal.returns-in_default
returns-in_default c = search rules

pub loop-task-preserved : goal.loop-task-preserved
loop-task-preserved c = grind (arith, common_steps)
