use Rattle.std.proofs.Common.{rules}
use Rattle.wh_workflow.proofs.pair.PairWorkflow.begin.Goals as goal

pub returns-in_ok-begin-2 : goal.returns-in_ok-begin-2
returns-in_ok-begin-2 g c = search rules
