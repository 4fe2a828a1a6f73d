use Rattle.std.proofs.Common.{rules}
use Rattle.wh_workflow.proofs.values.text_of.Goals as goal

pub returns : goal.returns
returns c = search rules
