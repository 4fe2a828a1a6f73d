use Rattle.std.proofs.Common.{rules}
use Rattle.wh_sample_workflows.proofs.branch.start.Goals as goal

pub returns : goal.returns
returns c = search rules
