use Rattle.wh_recorded.proofs.Standing.{each_stands_at_its_rank, nothing_else_stands, as_many_as_tasks}
use Rattle.wh_recorded.proofs.laws.rounds_are_said.Goals as goal

pub returns-clause-ranks : goal.returns-clause-ranks
returns-clause-ranks c = each_stands_at_its_rank

pub returns-clause-tasks : goal.returns-clause-tasks
returns-clause-tasks c = nothing_else_stands

pub returns-clause-length : goal.returns-clause-length
returns-clause-length c = as_many_as_tasks
