-- How a query that came alone is read.
use Rattle.std.specs.Prelude.{◌≡◌, ◌≢◌, ◌<◌, ◌^◌, ℕ, List, [], ◌∷◌, codes, map, Option, Some, None}
use Rattle.std.specs.Result.{result_ok}
use Rattle.serde_json.specs.Data.{Data, number, string, unsigned}
use Rattle.serde_json.specs.View.{view}
use Rattle.wh_events.specs.declared.key.RunKey.{RunKey}
use Rattle.wh_json.specs.Fields.{field, number_of}
use Rattle.wh_json.specs.Payloads.{payloads_at}
use Rattle.wh_workflow.specs.declared.queryable.Query.{Query}
use Rattle.wh_commands.specs.Objects.{object_of}
use Rattle.wh_commands.specs.Options.{◌>>=◌}
use Rattle.wh_commands.specs.Payloads.{payloads_written}
use Rattle.wh_commands.specs.ReadBack.{HaveBytes}
use Rattle.wh_messages.specs.Responses.{needed, page_in, run_in, query, workflow_poll}
use Rattle.wh_messages.specs.Served.{IsNamed, history_of, run_result}
use Rattle.wh_live_queries.specs.declared.polled.PolledQuery.{PolledQuery}

-- a query, with its events as data
pub record Asked : Type 0 where
  pub token : List ℕ
  pub run : RunKey
  pub query : Query
  pub previous : ℕ
  pub members : List Data
  pub next_page : List ℕ

abbrev pub query_seen : PolledQuery → Asked
query_seen polled = record {
  token = polled.token;
  run = polled.run;
  query = polled.query;
  previous = polled.previous;
  members = map view polled.members.items;
  next_page = polled.next_page;
}

-- the value as a number, 0 if it is missing
abbrev pub number_or_zero : Option Data → Option ℕ
number_or_zero None = Some 0
number_or_zero (Some d) = number_of d

-- the query: a type that is not empty, and arguments
unfoldable pub query_of : Option Data → Option Query
query_of value = do
  query_type ← needed (field (codes "queryType") value)
  input ← result_ok (payloads_at 0 (field (codes "queryArgs") value))
  Some (record { query_type = query_type; input = input })

-- the query of a token
unfoldable pub query_in : List ℕ → Data → Option Asked
query_in token d = do
  run ← run_in (field (codes "workflowExecution") (Some d))
  what ← query_of (field (codes "query") (Some d))
  previous ← number_or_zero (field (codes "previousStartedEventId") (Some d))
  page ← page_in d
  Some (record {
    token = token;
    run = run;
    query = what;
    previous = previous;
    members = page.members;
    next_page = page.next_page;
  })

-- ---- Laws

-- a query as a server writes it
abbrev pub query_written : Query → Data
query_written what = object_of (
    (codes "queryType", string what.query_type) ∷ (codes "queryArgs", payloads_written what.input) ∷ [])

-- a query that comes alone, as a server writes it
abbrev pub query_result : Asked → Data
query_result polled = object_of (
    (codes "taskToken", string polled.token) ∷ (codes "workflowExecution", run_result polled.run)
    ∷ (codes "previousStartedEventId", number (unsigned polled.previous)) ∷ (codes "history", history_of polled.members)
    ∷ (codes "nextPageToken", string polled.next_page)
    ∷ (codes "query", query_written polled.query) ∷ [])

-- a query is recognized as one and is read as it was written
abbrev pub QueryIsRead : Type 0
QueryIsRead = (polled : Asked) → polled.token ≢ [] → IsNamed polled.run → polled.query.query_type ≢ []
    → HaveBytes polled.query.input → polled.previous < 2 ^ 63
    → (workflow_poll (query_result polled) ≡ query polled.token (query_result polled))
    × (query_in polled.token (query_result polled) ≡ Some polled)

-- a query that comes with a task is read as it was written
abbrev pub QueryWithTaskIsRead : Type 0
QueryWithTaskIsRead = (what : Query) → what.query_type ≢ [] → HaveBytes what.input
    → query_of (Some (query_written what)) ≡ Some what
