-- The state in which a run is queried.
use Rattle.std.proofs.Common.{◌≡◌, ℕ, Bool, true, false, List, Result, Ok, Err, cond, ap, sym, ◌∙◌}
use Rattle.std.specs.Prelude.{IsOkAnd}
use Rattle.wh_events.specs.declared.event.Event.{Event}
use Rattle.wh_events.specs.declared.event.Payload.{Payload}
use Rattle.wh_workflow.specs.Activations.{and_then}
use Rattle.wh_workflow.specs.Law.{Program, IsLawful}
use Rattle.wh_replay.specs.declared.fault.Fault.{Fault}
use Rattle.wh_replay.specs.declared.fault.Fault.TheVariants.{NotATask}
use Rattle.wh_replay.specs.Replays.{Replayed, replay, ends_in_task}
use Rattle.wh_replay.specs.Runs.{run_of}
use Rattle.wh_replay.proofs.Resuming.{state_stays}
use Rattle.wh_workflow.specs.declared.queryable.QueryResult.{QueryResult}
use Rattle.wh_workflow.specs.Queries.{Queries, result_in}
use Rattle.wh_query.specs.Queries.{query_at}
use Rattle.wh_query.specs.Laws.{QueriesAgree}

module _ {S : Type 0} where
  left_state : (ends : Bool) (replayed : Result (Replayed S) Fault) (state : S) → IsOkAnd (cond ends replayed (Err NotATask)) (λ left. state ≡ left.state)
      → and_then replayed (λ left. Ok left.state) ≡ Ok state
  left_state true (Ok left) state e = ap Ok (sym e)
  left_state true (Err fault) state e = absurd e
  left_state false replayed state e = absurd e

  -- what a query gives in the state of a run is what it gives at the run's events
  pub query_in_state : (program : Program S) (queries : Queries S) (events : List Event) (query_type : List ℕ) (input : List Payload) (state : S) (given : QueryResult)
      → IsOkAnd (run_of program events) (λ left. state ≡ left.state) → given ≡ result_in queries state query_type input → query_at program queries events query_type input ≡ Ok given
  query_in_state program queries events query_type input state given e is =
      ap (λ left. and_then left (λ state. Ok (result_in queries state query_type input))) (left_state (ends_in_task events) (replay program events 0) state e) ∙ ap Ok (sym is)

  -- a query gives the same at a cached run as at its whole history
  pub queries_agree : (program : Program S) → IsLawful program → (queries : Queries S) → QueriesAgree program queries
  queries_agree program lawful queries held new query_type input ends confirmed placed none =
      ap (λ left. and_then left (λ state. Ok (result_in queries state query_type input))) (state_stays program lawful held new ends confirmed placed none)
