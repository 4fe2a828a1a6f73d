-- The results of the queries that come with a workflow task.
use Rattle.std.specs.Prelude.{ℕ, Bool, List, codes, Option, Some, None, Result, Ok, Err, if◌then◌else◌}
use Rattle.serde_json.specs.Data.{Data, Members, no_members, member}
use Rattle.wh_events.specs.declared.event.Event.{Event}
use Rattle.wh_json.specs.Fields.{field, text_of}
use Rattle.wh_live_queries.specs.Answers.{result_written}
use Rattle.wh_live_queries.specs.Metadata.{is_metadata, metadata_result}
use Rattle.wh_live_queries.specs.Polled.{query_of}
use Rattle.wh_workflow.specs.Definitions.{Definitions}
use Rattle.wh_workflow.specs.Queries.{Queries}
use Rattle.wh_workflow.specs.Queries as in_state
use Rattle.wh_workflow.specs.declared.queryable.Query.{Query}
use Rattle.wh_workflow.specs.declared.queryable.QueryResult.{QueryResult}
use Rattle.wh_workflow.specs.declared.queryable.QueryResult.TheVariants.{Failed}
use Rattle.wh_replay.specs.Outcomes.{state_after}
use Rattle.wh_replay.specs.Replays.{workflow_of}
use Rattle.wh_replay.specs.declared.fault.Fault.{Fault}
use Rattle.wh_tester.specs.Faults.{replay_fault_text}
use Rattle.wh_workflow.specs.Law.{Program}

-- a fault of replay, in words
abbrev pub fault_text : Fault → List ℕ
fault_text fault = replay_fault_text fault

-- the answer to send for a query's result, with a fault of replay in words
abbrev pub settled : Result QueryResult Fault → QueryResult
settled (Ok given) = given
settled (Err fault) = Failed (fault_text fault)

-- the query asks what the type of its run's workflow declares
abbrev pub asks_metadata : Data → Bool
asks_metadata query = is_metadata (text_of (field (codes "queryType") (Some query)))

-- the result of a query that can't be read
abbrev pub unreadable : QueryResult
unreadable = Failed (codes "the query can't be read")

-- the members of an object, each with what its value is mapped to
abbrev pub map_members : (Data → Data) → Members → Members
map_members f no_members = no_members
map_members f (member name d others) = member name (f d) (map_members f others)

module _ {S : Type 0} where
  -- the state that replay leaves, or its fault in words
  abbrev pub state_or_fault : Result S Fault → Result S (List ℕ)
  state_or_fault (Ok state) = Ok state
  state_or_fault (Err fault) = Err (fault_text fault)

  -- the result of a query in the state; without one it fails with the fault
  abbrev pub result_in : Queries S → Result S (List ℕ) → Query → QueryResult
  result_in queries (Ok state) query = in_state.result_in queries state query.query_type query.input
  result_in queries (Err text) query = Failed text

  -- the result of a query, if it could be read
  abbrev pub result_or_unreadable : Queries S → Result S (List ℕ) → Option Query → QueryResult
  result_or_unreadable queries left (Some query) = result_in queries left query
  result_or_unreadable queries left None = unreadable

  -- the result of a query of a run of a workflow type: what that declares, or the result in the state
  abbrev pub result_of : Queries S → Definitions → (kind : List ℕ) → Result S (List ℕ) → Data → QueryResult
  result_of queries definitions kind left query =
      if asks_metadata query then metadata_result kind (definitions kind)
      else result_or_unreadable queries left (query_of (Some query))

  -- the same, as the completion of a task has it
  abbrev pub written_result : Queries S → Definitions → (kind : List ℕ) → Result S (List ℕ) → Data → Data
  written_result queries definitions kind left query = result_written (result_of queries definitions kind left query)

  -- the results of queries, each under its query's id
  abbrev pub results_in : Queries S → Definitions → (kind : List ℕ) → Result S (List ℕ) → Members → Members
  results_in queries definitions kind left asked = map_members (written_result queries definitions kind left) asked

  -- the results of the queries that came with a task of a run, in the state in which its events leave the workflow
  abbrev pub results_beside : Program S → Queries S → Definitions → List Event → Members → Members
  results_beside program queries definitions events asked =
      results_in queries definitions (workflow_of events) (state_or_fault (state_after program events)) asked
