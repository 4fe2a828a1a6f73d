-- Queries at a cached run and at its whole history.
use Rattle.std.specs.Prelude.{◌≡◌, ℕ, true, List, [], ◌++◌, None}
use Rattle.wh_events.specs.declared.event.Event.{Event}
use Rattle.wh_events.specs.declared.event.Payload.{Payload}
use Rattle.wh_events.specs.Cuts.{cuts}
use Rattle.wh_events.specs.Places.{history_fault}
use Rattle.wh_workflow.specs.Law.{Program}
use Rattle.wh_replay.specs.Replays.{ends_in_task}
use Rattle.wh_replay.specs.Runs.{confirms}
use Rattle.wh_workflow.specs.Queries.{Queries}
use Rattle.wh_query.specs.Queries.{query_at}

-- if new events confirm those that a run holds, all are in place, and no cut is among the new ones, a query gives the
-- same result at the joined history as at the held one
abbrev pub QueriesAgree : {S : Type 0} → Program S → Queries S → Type 0
QueriesAgree program queries =
    (held new : List Event) (query_type : List ℕ) (input : List Payload)
    → ends_in_task held ≡ true → confirms program held new ≡ true
    → history_fault (held ++ new) ≡ None → cuts new ≡ []
    → query_at program queries (held ++ new) query_type input ≡ query_at program queries held query_type input
