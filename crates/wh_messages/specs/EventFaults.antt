-- Faults of the events of a task, each with the number that its event has in the history of the run.
use Rattle.std.specs.Prelude.{ℕ, ◌+◌, ◌-◌, ◌^◌, List, [], ◌∷◌, Option, Some, codes, min, option_and_then, unwrap_or}
use Rattle.serde_json.specs.Data.{Data}
use Rattle.wh_json.specs.Fields.{field, number_of}
use Rattle.wh_json.specs.declared.fault.ReadFault.{ReadFault}
use Rattle.wh_json.specs.declared.fault.ReadFault.TheVariants as faults

-- the number of an event; 1 if it can't be read
abbrev pub number_in : Data → ℕ
number_in event = unwrap_or (option_and_then number_of (field (codes "eventId") (Some event))) 1

-- as many events of a run come before these as the number of the first of them says
abbrev pub count_before : List Data → ℕ
count_before [] = 0
count_before (first ∷ rest) = number_in first - 1

-- the number of the event at a place of a list before which there are so many events, at most 2^64 - 1
abbrev pub number_after : (before at : ℕ) → ℕ
number_after before at = min (before + at) (2 ^ 64 - 1)

-- a fault with another number of its event, if it is about one
abbrev pub with_number : (ℕ → ℕ) → ReadFault → ReadFault
with_number number faults.TooLong = faults.TooLong
with_number number faults.BadJson = faults.BadJson
with_number number faults.NoEvents = faults.NoEvents
with_number number (faults.BadNumber at) = faults.BadNumber (number at)
with_number number (faults.OutOfOrder at) = faults.OutOfOrder (number at)
with_number number (faults.UnsupportedEvent at name) = faults.UnsupportedEvent (number at) name
with_number number (faults.MissingField at) = faults.MissingField (number at)
with_number number (faults.BadTime at) = faults.BadTime (number at)
with_number number (faults.BadPayload at) = faults.BadPayload (number at)
with_number number (faults.ShorthandPayload at) = faults.ShorthandPayload (number at)
with_number number (faults.UnsupportedMarker at name) = faults.UnsupportedMarker (number at) name
with_number number faults.OutOfMemory = faults.OutOfMemory
