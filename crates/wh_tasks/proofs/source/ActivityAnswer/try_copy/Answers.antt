use Rattle.std.proofs.Common.{rules}
use Rattle.wh_tasks.proofs.source.ActivityAnswer.try_copy.Goals as goal

pub returns-in_ok-try_copy-in-Completed : goal.returns-in_ok-try_copy-in-Completed
returns-in_ok-try_copy-in-Completed c = search rules
