use Rattle.wh_service.proofs.Turns.{each_goes_to_its_worker, nothing_else_is_assigned, are_assigned_in_order}
use Rattle.wh_service.proofs.laws.each_history_goes_to_one_worker.Goals as goal

pub returns-clause-own : goal.returns-clause-own
returns-clause-own c = each_goes_to_its_worker

pub returns-clause-others : goal.returns-clause-others
returns-clause-others c = nothing_else_is_assigned

pub returns-clause-order : goal.returns-clause-order
returns-clause-order c = are_assigned_in_order
