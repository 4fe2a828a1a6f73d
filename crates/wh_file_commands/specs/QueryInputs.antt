-- The arguments of a query.
use Rattle.std.specs.Prelude.{ℕ, Bool, List, Option, Some, None, is_some, map, if◌then◌else◌}
use Rattle.std.specs.List.{list_all}
use Rattle.wh_events.specs.declared.event.Payload.{Payload}
use Rattle.wh_json.specs.Fields.{document}
use Rattle.wh_workflow.specs.Queries.{json_payload}
use Rattle.wh_workflow.specs.declared.queryable.Query.{Query}

-- the word is a JSON text
abbrev pub is_json : List ℕ → Bool
is_json word = is_some (document word)

-- the payload of a word that is a JSON text
abbrev pub json_input : List ℕ → Option Payload
json_input word = if is_json word then Some (json_payload word) else None

-- the query of a type with these words as its arguments, if each of them is a JSON text
abbrev pub query_of : List ℕ → List (List ℕ) → Option Query
query_of query_type words =
    if list_all is_json words then Some (record { query_type = query_type; input = map json_payload words }) else None
