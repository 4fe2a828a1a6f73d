use Rattle.std.proofs.Common.{◌≡◌, ◌++◌, drop, Ok}
use Rattle.std.specs.Prelude.{map}
use Rattle.wh_workflow.specs.declared.queryable.Query.{Query}
use Rattle.wh_query.specs.Queries.{query_at}
use Rattle.wh_query.proofs.querying.query_each.Given as goal

abbrev pub invariant-loop-query : goal.invariant-loop-query
invariant-loop-query g l =
    let gives = λ (query : Query). query_at g.W.Workflow.program g.W.Queryable.queries l.run.events query.query_type query.input in
    map Ok l.results.items ++ map gives (drop l.query-index l.queries) ≡ map gives l.queries
