use Rattle.std.proofs.Common.{rules}
use Rattle.wh_workflow.proofs.giving.give_all.Goals as goal

pub returns-clause-commands : goal.returns-clause-commands
returns-clause-commands c = search rules
