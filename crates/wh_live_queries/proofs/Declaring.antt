-- The metadata of a workflow type have no number.
use Rattle.std.proofs.Common.{◌≡◌, ℕ, List, [], ◌∷◌, map, false, refl}
use Rattle.serde_json.specs.Data.{Data}
use Rattle.serde_json.specs.View.{items_of}
use Rattle.serde_json.specs.Written.{has_float, items_have_float}
use Rattle.wh_commands.specs.Commands.{named}
use Rattle.wh_workflow.specs.declared.definition.WorkflowDefinition.{WorkflowDefinition}
use Rattle.wh_live_queries.specs.Metadata.{metadata_written}

names_have_no_float : (names : List (List ℕ)) → items_have_float (items_of (map named names)) ≡ false
names_have_no_float [] = refl
names_have_no_float (name ∷ names) = names_have_no_float names

pub metadata_has_no_float : (d : Data) (kind : List ℕ) (definition : WorkflowDefinition) → d ≡ metadata_written kind definition → has_float d ≡ false
metadata_has_no_float d kind definition is =
    rw (is, names_have_no_float definition.queries, names_have_no_float definition.signals) refl
