-- The result of a query at a history.
use Rattle.std.specs.Prelude.{ℕ, List, Result, Ok}
use Rattle.wh_events.specs.declared.event.Event.{Event}
use Rattle.wh_events.specs.declared.event.Payload.{Payload}
use Rattle.wh_workflow.specs.Activations.{and_then}
use Rattle.wh_workflow.specs.Law.{Program}
use Rattle.wh_replay.specs.declared.fault.Fault.{Fault}
use Rattle.wh_replay.specs.Outcomes.{state_after}
use Rattle.wh_workflow.specs.declared.queryable.QueryResult.{QueryResult}
use Rattle.wh_workflow.specs.Queries.{Queries, result_in}

-- the result of a query at a history: that in the state which replay of its tasks leaves, or the fault of replay
abbrev pub query_at : {S : Type 0} → Program S → Queries S → List Event → List ℕ → List Payload
    → Result QueryResult Fault
query_at program queries events query_type input =
    and_then (state_after program events) (λ state. Ok (result_in queries state query_type input))
