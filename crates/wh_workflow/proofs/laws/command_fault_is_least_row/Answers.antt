use Rattle.wh_workflow.proofs.Faulting.{least_row_decides}
use Rattle.wh_workflow.proofs.laws.command_fault_is_least_row.Goals as goal

pub returns : goal.returns
returns c = least_row_decides
