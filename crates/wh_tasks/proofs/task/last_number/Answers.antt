use Rattle.std.proofs.Common.{rules}
use Rattle.wh_tasks.proofs.task.last_number.Goals as goal

pub returns-in-Some : goal.returns-in-Some
returns-in-Some c = search rules
