use Rattle.std.proofs.Common.{rules}
use Rattle.wh_workflow.proofs.job.activity_end.Goals as goal

pub returns-in-TimedOut : goal.returns-in-TimedOut
returns-in-TimedOut c = search rules
