use Rattle.std.proofs.Common.{rules}
use Rattle.wh_split.proofs.cut.is_cut.Goals as goal

pub returns-in-WorkflowTaskCompleted : goal.returns-in-WorkflowTaskCompleted
returns-in-WorkflowTaskCompleted c = search rules
