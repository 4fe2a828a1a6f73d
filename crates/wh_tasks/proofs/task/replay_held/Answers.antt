use Rattle.std.proofs.Common.{rules}
use Rattle.wh_tasks.proofs.task.replay_held.Goals as goal

pub returns-in-Err-OutOfMemory-clause-asked : goal.returns-in-Err-OutOfMemory-clause-asked
returns-in-Err-OutOfMemory-clause-asked g c = search rules

pub returns-in-Err-Gap-clause-stepped : goal.returns-in-Err-Gap-clause-stepped
returns-in-Err-Gap-clause-stepped g c = search rules
