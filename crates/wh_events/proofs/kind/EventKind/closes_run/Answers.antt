use Rattle.std.proofs.Common.{rules}
use Rattle.wh_events.proofs.kind.EventKind.closes_run.Goals as goal

pub returns-in_default : goal.returns-in_default
returns-in_default c = search rules

pub returns-in-WorkflowExecutionCompleted-5 : goal.returns-in-WorkflowExecutionCompleted-5
returns-in-WorkflowExecutionCompleted-5 c = search rules
