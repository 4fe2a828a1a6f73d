-- The workflow id of an order's child.
use Rattle.std.specs.Prelude.{ℕ, List, ◌++◌, Option, Some, None, codes}
use Rattle.wh_events.specs.declared.event.Payload.{Payload}
use Rattle.wh_workflow.specs.PlainTexts.{payload_text}

-- the id of the child of an order with this name
abbrev pub id_of_name : Option (List ℕ) → List ℕ
id_of_name (Some name) = codes "parcel-" ++ name
id_of_name None = codes "parcel"

-- the id of the child of an order with this input
abbrev pub parcel_id : List Payload → List ℕ
parcel_id input = id_of_name (payload_text input 1)
