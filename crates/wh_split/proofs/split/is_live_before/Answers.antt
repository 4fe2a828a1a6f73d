use Rattle.std.proofs.Common.{rules}
use Rattle.wh_split.proofs.split.is_live_before.Goals as goal

pub returns-then-is_task_started : goal.returns-then-is_task_started
returns-then-is_task_started c = search rules
