use Rattle.wh_workflow.proofs.Differing.{first_difference_decides}
use Rattle.wh_workflow.proofs.laws.first_difference_decides.Goals as goal

pub returns : goal.returns
returns c = first_difference_decides
