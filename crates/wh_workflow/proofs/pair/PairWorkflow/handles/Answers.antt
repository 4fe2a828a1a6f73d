use Rattle.std.proofs.Common.{rules}
use Rattle.wh_workflow.proofs.pair.PairWorkflow.handles.Goals as goal

pub returns-then-handles : goal.returns-then-handles
returns-then-handles g c = search rules

pub returns-else-handles : goal.returns-else-handles
returns-else-handles g c = search rules
