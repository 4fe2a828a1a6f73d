use Rattle.std.proofs.lemmas.Grind.{common_steps}
use Rattle.std.proofs.Common.{arith}
use Rattle.wh_recorded.proofs.script_source.ScriptedHistory.count_completed.Goals as goal

pub loop-task-preserved : goal.loop-task-preserved
loop-task-preserved c = grind (arith, common_steps)
