use Rattle.wh_query.proofs.States.{queries_agree}
use Rattle.wh_query.proofs.laws.queries_agree.Goals as goal

pub returns : goal.returns
returns g c = queries_agree g.W.Workflow.program g.met.W.Workflow.lawful g.W.Queryable.queries
