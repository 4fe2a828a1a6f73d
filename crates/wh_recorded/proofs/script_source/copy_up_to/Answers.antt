use Rattle.std.proofs.Common.{arith, rules}
use Rattle.std.proofs.lemmas.Grind.{common_steps}
use Rattle.wh_recorded.proofs.script_source.copy_up_to.Goals as goal

pub returns-then-up_to-get : goal.returns-then-up_to-get
returns-then-up_to-get c = grind (arith, common_steps)

pub returns-in_err-push_copy : goal.returns-in_err-push_copy
returns-in_err-push_copy c = search rules

pub loop-event-preserved : goal.loop-event-preserved
loop-event-preserved c = grind (arith, common_steps)
