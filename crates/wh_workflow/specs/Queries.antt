-- The results of queries.
use Rattle.std.specs.Prelude.{ℕ, eqb, Bool, List, [], ◌∷◌, ◌++◌, codes, bytes_eq, if◌then◌else◌}
use Rattle.std.specs.List.{starts_with}
use Rattle.wh_events.specs.declared.event.Payload.{Payload}
use Rattle.wh_workflow.specs.declared.pair.Either.{Either}
use Rattle.wh_workflow.specs.declared.pair.Either.TheVariants.{First, Second}
use Rattle.wh_workflow.specs.declared.queryable.QueryResult.{QueryResult}
use Rattle.wh_workflow.specs.declared.queryable.QueryResult.TheVariants.{Answered, Failed}

-- the result of a query in a state, by its type and its input
abbrev pub Queries : Type 0 → Type 0
Queries S = S → List ℕ → List Payload → QueryResult

-- the result of a query of an unknown type, with the names of the known ones
abbrev pub unknown_query : List ℕ → List ℕ → QueryResult
unknown_query query_type known = Failed (codes "unknown query type " ++ (query_type ++ (codes "; known: " ++ known)))

-- the payload of a JSON text
abbrev pub json_payload : List ℕ → Payload
json_payload json = record { encoding = codes "json/plain"; content = json }

-- the result that is one payload of a JSON text
abbrev pub json_result : List ℕ → QueryResult
json_result json = Answered (json_payload json ∷ [])

-- the query types that Temporal's SDKs reserve begin with two underscores
abbrev pub is_built_in : List ℕ → Bool
is_built_in query_type = starts_with eqb query_type (codes "__")

-- what there is in place of a stack trace, as a JSON text
abbrev pub stack_trace : List ℕ
stack_trace =
    codes "\"There is no stack trace: this worker runs a workflow as steps of a state, without coroutines.\""

-- the result of a query of such a type
abbrev pub built_in_query : List ℕ → QueryResult
built_in_query query_type =
    if bytes_eq query_type (codes "__stack_trace") then json_result stack_trace
    else Failed (codes "built-in query types are not supported: " ++ query_type)

module _ {S : Type 0} where
  -- the result of a query in a state: that of the workflow's query handlers, but for the built-in types
  abbrev pub result_in : Queries S → Queries S
  result_in queries state query_type input =
      if is_built_in query_type then built_in_query query_type else queries state query_type input

  -- the results of a workflow without query handlers
  abbrev pub no_queries : Queries S
  no_queries state query_type input = unknown_query query_type (codes "none")

-- the results of two workflows as one: those of the workflow that has the state
abbrev pub pair_queries : {S T : Type 0} → Queries S → Queries T → Queries (Either S T)
pair_queries first second (First state) query_type input = first state query_type input
pair_queries first second (Second state) query_type input = second state query_type input
