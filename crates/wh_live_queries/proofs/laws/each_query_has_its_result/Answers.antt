use Rattle.wh_live_queries.proofs.Agreeing.{each_has_its_result}
use Rattle.wh_live_queries.proofs.laws.each_query_has_its_result.Goals as goal

pub returns : goal.returns
returns g c = each_has_its_result g.W.Workflow.program g.W.Queryable.queries g.W.Queryable.definitions
