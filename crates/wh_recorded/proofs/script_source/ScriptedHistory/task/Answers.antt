use Rattle.std.proofs.lemmas.Grind.{common_steps}
use Rattle.std.proofs.Common.{arith}
use Rattle.wh_recorded.proofs.script_source.ScriptedHistory.task.Goals as goal

pub returns : goal.returns
returns c = grind (arith, common_steps)
