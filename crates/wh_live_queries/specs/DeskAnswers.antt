-- The answers to queries of live runs.
use Rattle.std.specs.Prelude.{◌≡◌, ◌⊎◌, ℕ, Bool, true, List, codes, Option, Some, None, Ok, length}
use Rattle.std.specs.Map.{lookup}
use Rattle.serde_json.specs.Data.{Data}
use Rattle.wh_client.specs.Calls.{Gives}
use Rattle.wh_client.specs.Histories.{HasAllMembers, IsWhole, ReadsEvents}
use Rattle.wh_client.specs.Requests.{IsAnswered, IsRequest}
use Rattle.wh_client.specs.declared.requests.Request.{Request}
use Rattle.wh_commands.specs.declared.names.WorkerNames.{WorkerNames}
use Rattle.wh_events.specs.declared.event.Event.{Event}
use Rattle.wh_events.specs.declared.key.RunKey.{RunKey}
use Rattle.wh_events.specs.Keys.{same_key}
use Rattle.wh_host.specs.Machine.{HostView, IsHost}
use Rattle.wh_query.specs.Queries.{query_at}
use Rattle.wh_query.specs.Completed.{completed_part}
use Rattle.wh_live_queries.specs.Answers.{query_completed}
use Rattle.wh_live_queries.specs.Metadata.{metadata_asked, metadata_result}
use Rattle.wh_live_queries.specs.Polled.{Asked, query_in}
use Rattle.wh_workflow.specs.Definitions.{Definitions}
use Rattle.wh_workflow.specs.Queries.{Queries}
use Rattle.wh_workflow.specs.declared.queryable.QueryResult.{QueryResult}
use Rattle.wh_workflow.specs.declared.queryable.QueryResult.TheVariants.{Failed}
use Rattle.wh_replay.specs.Runs.{HistoryView, follows}
use Rattle.wh_live_queries.specs.Results.{settled}
use Rattle.wh_workflow.specs.Law.{Program}

-- ---- Histories

-- the events that a query comes with: its members, and those of the pages after them
pub record IsOwn (gives : Gives) (names : WorkerNames) (run : RunKey) (next_page : List ℕ) (members : List Data)
    (events : List Event) : Type 0 where
  pub all : List Data
  pub are_all : HasAllMembers gives names run next_page members all
  pub read : ReadsEvents all events

-- the events of a run, as the server returns them from the first one
pub record IsFetched (gives : Gives) (names : WorkerNames) (run : RunKey) (events : List Event) : Type 0 where
  pub all : List Data
  pub whole : IsWhole gives names run all
  pub read : ReadsEvents all events

-- the history of a run: what its query comes with, if that begins with the first event, or what is fetched
abbrev pub AreRunEvents : Gives → WorkerNames → RunKey → List ℕ → List Data → List Event → Type 0
AreRunEvents gives names run next_page members events =
    (IsOwn gives names run next_page members events × (follows 0 events ≡ true)) ⊎ IsFetched gives names run events

-- ---- Results

module _ {S : Type 0} (program : Program S) (queries : Queries S) where
  -- the result of the query from the run that the host has cached under its key, if that ends in the last completed
  -- task
  pub record IsResultIn (host : HostView) (asked : Asked) (given : QueryResult) : Type 0 where
    pub history : HistoryView
    pub cached : lookup (same_key asked.run) host.cache.runs ≡ Some history
    pub up_to : length history.events ≡ asked.previous
    pub is : query_at program queries history.events asked.query.query_type asked.query.input ≡ Ok given

  -- the result of the query from a cached run of a host
  pub record IsCachedResult (asked : Asked) (given : QueryResult) : Type 0 where
    pub host : HostView
    pub is_host : IsHost program host
    pub is : IsResultIn host asked given

module _ {S : Type 0} (gives : Gives) (names : WorkerNames) (program : Program S) (queries : Queries S) where
  -- the result of the query after the completed tasks of its run's history, or the fault of replay in words
  pub record AreRunEventsOf (asked : Asked) (given : QueryResult) : Type 0 where
    pub events : List Event
    pub told : AreRunEvents gives names asked.run asked.next_page asked.members events
    pub is : given ≡ settled (query_at program queries (completed_part events) asked.query.query_type asked.query.input)

  -- the result of the query: from a cached run, or from its run's history
  abbrev pub IsQueryResult : Asked → QueryResult → Type 0
  IsQueryResult asked given = IsCachedResult program queries asked given ⊎ AreRunEventsOf asked given

  -- the query could be read, and this is its result
  abbrev pub IsSettled : Option Asked → QueryResult → Type 0
  IsSettled None given = ⊥
  IsSettled (Some asked) given = IsQueryResult asked given

  -- what the workflow type declares, if the query asks for that; else its result
  abbrev pub IsGiven : Definitions → Option (List ℕ) → Option Asked → QueryResult → Type 0
  IsGiven definitions (Some kind) asked given = given ≡ metadata_result kind (definitions kind)
  IsGiven definitions None asked given = IsSettled asked given

  -- the request answers the query of the token: with its result, or with a reason why it has none
  pub record AnswersPoll (definitions : Definitions) (token : List ℕ) (result : Data) (request : Request) : Type 0 where
    pub given : QueryResult
    pub is : IsGiven definitions (metadata_asked result) (query_in token result) given
        ⊎ ((reason : List ℕ) × (given ≡ Failed reason))
    pub request_is : IsRequest request (codes "RespondQueryTaskCompleted") (query_completed names token given)

  -- the server returned a result for a request that answers the query of the token
  pub record AcceptsAnswer (definitions : Definitions) (token : List ℕ) (result : Data) : Type 0 where
    pub request : Request
    pub answers : AnswersPoll definitions token result request
    pub discarded : Bool
    pub accepted : IsAnswered gives request discarded
