-- The name of a run, from its input.
use Rattle.std.specs.Prelude.{[], ℕ, List, ◌++◌, Option, Some, None}
use Rattle.wh_events.specs.declared.event.Payload.{Payload}
use Rattle.wh_workflow.specs.PlainTexts.{payload_text}
use Rattle.wh_rows.specs.declared.row.Naming.TheVariants as namings
use Rattle.wh_rows.specs.Tables.{Naming}

-- the prefix and the name, or the other name if there is none
abbrev pub prefixed : List ℕ → List ℕ → Option (List ℕ) → List ℕ
prefixed prefix other (Some name) = prefix ++ name
prefixed prefix other None = other

-- the name of a run with this input
abbrev pub name_by : Naming → List Payload → List ℕ
name_by namings.Nameless input = []
name_by (namings.ByPayload number prefix other) input = prefixed prefix other (payload_text input number)
