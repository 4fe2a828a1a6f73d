-- What Temporal's Web UI asks of a workflow type (`temporal.api.sdk.v1.WorkflowMetadata`), and the answer.
use Rattle.std.specs.Prelude.{ℕ, Bool, List, [], ◌∷◌, bytes_eq, codes, map, Option, Some, None, if◌then◌else◌}
use Rattle.serde_json.specs.Data.{Data, array, string}
use Rattle.serde_json.specs.View.{items_of}
use Rattle.serde_json.specs.Written.{compact_text}
use Rattle.wh_json.specs.Fields.{field, text_of}
use Rattle.wh_commands.specs.Commands.{named}
use Rattle.wh_commands.specs.Objects.{object_of}
use Rattle.wh_workflow.specs.Queries.{json_result}
use Rattle.wh_workflow.specs.declared.definition.WorkflowDefinition.{WorkflowDefinition}
use Rattle.wh_workflow.specs.declared.queryable.QueryResult.{QueryResult}

-- the text at the end of two names, empty if there is none
unfoldable pub text_at : List ℕ → List ℕ → Data → List ℕ
text_at name own d = text_of (field own (field name (Some d)))

-- the type of a polled query, empty if it has none
abbrev pub query_type_in : Data → List ℕ
query_type_in d = text_at (codes "query") (codes "queryType") d

-- the type of the workflow that a poll names, empty if it names none
abbrev pub workflow_type_in : Data → List ℕ
workflow_type_in d = text_at (codes "workflowType") (codes "name") d

-- the query type asks for the metadata of a workflow type
abbrev pub is_metadata : List ℕ → Bool
is_metadata query_type = bytes_eq query_type (codes "__temporal_workflow_metadata")

-- the workflow type whose metadata a polled query asks for
unfoldable pub metadata_asked : Data → Option (List ℕ)
metadata_asked d = if is_metadata (query_type_in d) then Some (workflow_type_in d) else None

-- the metadata of a workflow type: its own name, and the names of its queries and signals
abbrev pub metadata_written : List ℕ → WorkflowDefinition → Data
metadata_written kind definition = object_of ((
  codes "definition",
  object_of (
      (codes "type", string kind) ∷ (codes "queryDefinitions", array (items_of (map named definition.queries)))
      ∷ (codes "signalDefinitions", array (items_of (map named definition.signals))) ∷ []),
) ∷ [])

-- the answer to a query for the metadata of a workflow type
abbrev pub metadata_result : List ℕ → WorkflowDefinition → QueryResult
metadata_result kind definition = json_result (compact_text (metadata_written kind definition))
