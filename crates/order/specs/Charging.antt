-- The activity that charges for an order.
use Rattle.std.specs.Prelude.{ℕ, List, Option, Some, None, codes, bytes_eq, if◌then◌else◌}
use Rattle.wh_events.specs.declared.event.Payload.{Payload}

-- the result of charging a card is the activity's input; there are no other activities
abbrev pub receipt : List ℕ → List Payload → Option (List Payload)
receipt activity input = if bytes_eq activity (codes "ChargeCard") then Some input else None
