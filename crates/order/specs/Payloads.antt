-- Payloads of orders.
use Rattle.std.specs.Prelude.{ℕ, List, codes}
use Rattle.wh_events.specs.declared.event.Payload.{Payload}

-- a JSON text as a payload
abbrev pub json : List ℕ → Payload
json text = record { encoding = codes "json/plain"; content = text }
