use Rattle.std.proofs.Common.{◌≡◌, List, ◌++◌}
use Rattle.serde_json.specs.View.{members_view}
use Rattle.serde_json.proofs.Views.{Entry}
use Rattle.wh_live_queries.specs.Results.{results_in}
use Rattle.wh_live_queries.proofs.results.results_in.Given as goal

-- the results so far are those of the queries that are done
abbrev pub invariant-loop-id : goal.invariant-loop-id
invariant-loop-id g l =
    (done : List Entry) × (l.queries.entries ≡ done ++ l.id-iterator)
    × (members_view l.results.entries
    ≡ results_in g.W.Queryable.queries g.W.Queryable.definitions l.kind l.left (members_view done))
