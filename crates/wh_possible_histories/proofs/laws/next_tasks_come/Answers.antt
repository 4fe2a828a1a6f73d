use Rattle.wh_possible_histories.proofs.Coming as coming
use Rattle.wh_possible_histories.proofs.laws.next_tasks_come.Goals as goal

pub returns : goal.returns
returns c = coming.tasks_come
