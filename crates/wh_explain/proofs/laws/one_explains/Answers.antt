use Rattle.wh_explain.proofs.One.{one_explains}
use Rattle.wh_explain.proofs.laws.one_explains.Goals as goal

pub returns : goal.returns
returns g c = one_explains g.W.Workflow.program
