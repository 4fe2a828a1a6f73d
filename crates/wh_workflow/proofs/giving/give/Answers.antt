use Rattle.std.proofs.Common.{arith, rules}
use Rattle.std.proofs.lemmas.Grind.{common_steps}
use Rattle.wh_workflow.proofs.giving.give.Goals as goal

pub returns-in_ok-push-clause-commands : goal.returns-in_ok-push-clause-commands
returns-in_ok-push-clause-commands c = search rules

pub returns-in_ok-push-clause-answer : goal.returns-in_ok-push-clause-answer
returns-in_ok-push-clause-answer c = grind (arith, common_steps)
