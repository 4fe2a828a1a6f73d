use Rattle.std.proofs.Common.{rules}
use Rattle.wh_workflow.proofs.values.texts_of.Goals as goal

pub returns-clause-second : goal.returns-clause-second
returns-clause-second c = search rules
