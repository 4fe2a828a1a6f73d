-- How runs of tables answer queries.
use Rattle.std.specs.Prelude.{◌≡◌, ℕ, List, [], ◌∷◌, Some, codes, bytes_eq, if◌then◌else◌}
use Rattle.serde_json.specs.Data.{string}
use Rattle.serde_json.specs.Read.{read}
use Rattle.serde_json.specs.Written.{compact_text}
use Rattle.wh_events.specs.declared.event.Payload.{Payload}
use Rattle.wh_workflow.specs.declared.queryable.QueryResult.{QueryResult}
use Rattle.wh_workflow.specs.declared.queryable.QueryResult.TheVariants.{Answered}
use Rattle.wh_workflow.specs.declared.definition.WorkflowDefinition.{WorkflowDefinition}
use Rattle.wh_workflow.specs.Definitions.{Definitions}
use Rattle.wh_workflow.specs.Queries.{Queries, json_payload, json_result, unknown_query}
use Rattle.wh_rows.specs.declared.row.RowsState.{RowsState}

-- the name of the run's state, as a JSON string
abbrev pub state_json : RowsState → List ℕ
state_json state = compact_text (string state.at)

-- the answer to a query of this type: only `state` is known
abbrev pub row_query : RowsState → List ℕ → QueryResult
row_query state query_type =
    if bytes_eq query_type (codes "state") then json_result (state_json state)
    else unknown_query query_type (codes "state")

-- the answer to a query, whatever its input is
abbrev pub row_queries : Queries RowsState
row_queries state query_type input = row_query state query_type

-- what a table declares: the query `state`
abbrev pub row_definition : WorkflowDefinition
row_definition = record { queries = codes "state" ∷ []; signals = [] }

-- the same under each workflow type
abbrev pub row_definitions : Definitions
row_definitions kind = row_definition

-- the query `state` is answered by one payload, a JSON text that reads as the name of the run's state
abbrev pub TellsItsState : Type 0
TellsItsState =
    (state : RowsState) (input : List Payload)
    → (json : List ℕ)
    × (row_queries state (codes "state") input ≡ Answered (json_payload json ∷ []))
    × (read json ≡ Some (string state.at))
