use Rattle.wh_live_queries.proofs.Agreeing.{same_as_alone}
use Rattle.wh_live_queries.proofs.laws.queries_with_tasks_agree.Goals as goal

pub returns : goal.returns
returns g c = same_as_alone g.W.Workflow.program g.met.W.Workflow.lawful g.W.Queryable.queries
