use Rattle.std.proofs.Common.{rules}
use Rattle.wh_sample_workflows.proofs.nap.NapWorkflow.step.Goals as goal

pub returns-in_err-given-clause-meter : goal.returns-in_err-given-clause-meter
returns-in_err-given-clause-meter c = search rules

pub returns-clause-meter : goal.returns-clause-meter
returns-clause-meter c = search rules
