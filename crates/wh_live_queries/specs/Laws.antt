-- The results of queries with a task, one by one, and beside those of queries that come alone.
use Rattle.std.specs.Prelude.{◌≡◌, ℕ, true, List, [], ◌++◌, None, option_map}
use Rattle.serde_json.specs.Data.{Members}
use Rattle.serde_json.specs.Find.{get_member}
use Rattle.wh_events.specs.declared.event.Event.{Event}
use Rattle.wh_events.specs.Cuts.{cuts}
use Rattle.wh_events.specs.Places.{history_fault}
use Rattle.wh_query.specs.Completed.{completed_part}
use Rattle.wh_query.specs.Queries.{query_at}
use Rattle.wh_live_queries.specs.Answers.{result_written}
use Rattle.wh_workflow.specs.Definitions.{Definitions}
use Rattle.wh_workflow.specs.Queries.{Queries}
use Rattle.wh_workflow.specs.declared.queryable.Query.{Query}
use Rattle.wh_replay.specs.Outcomes.{state_after}
use Rattle.wh_replay.specs.Replays.{ends_in_task, workflow_of}
use Rattle.wh_replay.specs.Runs.{confirms}
use Rattle.wh_workflow.specs.Law.{Program}
use Rattle.wh_live_queries.specs.Results.{result_in, result_of, results_beside, settled, state_or_fault}

module _ {S : Type 0} where
  -- under an id there is the result of the query that has this id, and nothing if no query has it
  abbrev pub EachHasItsResult : Program S → Queries S → Definitions → Type 0
  EachHasItsResult program queries definitions = (events : List Event) (asked : Members) (id : List ℕ) →
      get_member id (results_beside program queries definitions events asked)
      ≡ option_map (λ query. result_written (result_of queries definitions (workflow_of events)
      (state_or_fault (state_after program events)) query)) (get_member id asked)

  -- a query that can be read has the result that it would get alone once the new events record the task's completion:
  -- they confirm those that the run holds, all are in place, no task is among the new ones, and none is in hand
  abbrev pub SameAsAlone : Program S → Queries S → Type 0
  SameAsAlone program queries = (held new : List Event) (query : Query)
      → ends_in_task held ≡ true → confirms program held new ≡ true
      → history_fault (held ++ new) ≡ None → cuts new ≡ []
      → completed_part (held ++ new) ≡ held ++ new
      → result_in queries (state_or_fault (state_after program held)) query
      ≡ settled (query_at program queries (completed_part (held ++ new)) query.query_type query.input)
