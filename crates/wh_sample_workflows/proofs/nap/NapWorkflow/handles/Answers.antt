use Rattle.std.proofs.Common.{rules}
use Rattle.wh_sample_workflows.proofs.nap.NapWorkflow.handles.Goals as goal

pub returns : goal.returns
returns c = search rules
