use Rattle.std.proofs.Common.{rules}
use Rattle.wh_tasks.proofs.task.replay_task.Goals as goal

pub returns-in-None-clause-stepped : goal.returns-in-None-clause-stepped
returns-in-None-clause-stepped g c = search rules
