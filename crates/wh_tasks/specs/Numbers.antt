-- The number that a list of events ends with.
use Rattle.std.specs.Prelude.{ℕ, ◌-◌, List, length, slice_get, Option, Some, None}
use Rattle.wh_events.specs.declared.event.Event.{Event}

-- the number of the event, or 0 if there is none
abbrev pub number_or_zero : Option Event → ℕ
number_or_zero None = 0
number_or_zero (Some event) = event.number

-- the number of the last event, or 0 if there is none
abbrev pub last_number : List Event → ℕ
last_number events = number_or_zero (slice_get events (length events - 1))
