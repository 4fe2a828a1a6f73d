-- The part of Report that only contracts of private functions cite.
use Rattle.std.specs.Prelude.{ℕ, List, [], ◌++◌, codes, decimal, Option, Some, None}
use Rattle.wh_json.specs.declared.fault.ReadFault.{ReadFault}
use Rattle.wh_json.specs.declared.fault.ReadFault.TheVariants as faults

-- the words after the event
abbrev pub words_of : ReadFault → List ℕ
words_of faults.TooLong = codes "file too long"
words_of faults.BadJson = codes "not JSON"
words_of faults.NoEvents = codes "no events"
words_of (faults.BadNumber at) = codes " has a bad number"
words_of (faults.OutOfOrder at) = codes " is out of order"
words_of (faults.UnsupportedEvent at name) = codes " has the unsupported type "
words_of (faults.MissingField at) = codes " lacks a field"
words_of (faults.BadTime at) = codes " has a bad time"
words_of (faults.BadPayload at) = codes " has a bad payload"
words_of (faults.ShorthandPayload at) = codes " has a shorthand payload"
words_of (faults.UnsupportedMarker at name) = codes " has the unsupported marker "
words_of faults.OutOfMemory = codes "out of memory"

-- the name after the words
abbrev pub name_of : ReadFault → List ℕ
name_of (faults.UnsupportedEvent at name) = name
name_of (faults.UnsupportedMarker at name) = name
name_of _ = []

-- the event in words, if there is one
abbrev pub event_text : Option ℕ → List ℕ
event_text None = []
event_text (Some at) = codes "event " ++ decimal at
