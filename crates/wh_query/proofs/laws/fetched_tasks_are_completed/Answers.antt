use Rattle.wh_query.proofs.CompletedTasks.{has_completed_tasks}
use Rattle.wh_query.proofs.laws.fetched_tasks_are_completed.Goals as goal

pub returns : goal.returns
returns c = has_completed_tasks
