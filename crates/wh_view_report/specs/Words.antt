-- The words of a report for an event of a view.
use Rattle.std.specs.Prelude.{ℕ, ◌-◌, ◌==◌, List, [], ◌++◌, codes, decimal, Bool, Option, Some, None, slice_get, option_and_then, if◌then◌else◌}
use Rattle.wh_json.specs.declared.fault.ReadFault.{ReadFault}
use Rattle.wh_json.specs.declared.fault.ReadFault.TheVariants as faults
use Rattle.wh_view.specs.declared.view.View.{View}
use Rattle.wh_view.specs.declared.view.ViewedEvent.{ViewedEvent}
use Rattle.wh_view.specs.declared.view.ViewedThing.{ViewedThing}
use Rattle.wh_events.specs.declared.kind.EventKind.{EventKind}
use Rattle.wh_view.specs.Lookups.{event_id, index_of, thing_of, task_of, lacks_thing}
use Rattle.wh_view.specs.Parts.{word_of}
use Rattle.wh_view.specs.Unsupported.{is_unsupported}
use Rattle.wh_view.specs.declared.parts.EventUse.{EventUse}
use Rattle.wh_view.specs.declared.parts.EventUse.TheVariants as words

-- `(event NUMBER)`, or else `(place PLACE)`
abbrev pub numbered : Option ℕ → ℕ → List ℕ
numbered (Some number) place = codes "(event " ++ (decimal number ++ codes ")")
numbered None place = codes "(place " ++ (decimal place ++ codes ")")

-- the number of an event, or its place if it has no number
abbrev pub number_text : ViewedEvent → List ℕ
number_text event = numbered event.read.number event.place

-- a label and a reference to an event; nothing if there is none
abbrev pub labelled : List ℕ → Option ViewedEvent → List ℕ
labelled label None = []
labelled label (Some event) = label ++ number_text event

-- a label and a reference to the event at an index; nothing if there is none
abbrev pub reference_text : List ℕ → View → Option ℕ → List ℕ
reference_text label view index = labelled label (option_and_then (slice_get view.events) index)

-- the event that ends a thing, for a line of the event at a place; nothing if it is that event
abbrev pub ended_text : View → ℕ → Option ℕ → List ℕ
ended_text view place None = codes ", not ended"
ended_text view place (Some index) =
    if index == place - 1 then [] else reference_text (codes ", ended ") view (Some index)

-- how an event is linked with a thing: the line of the event that opened it names the other events, and theirs names it
abbrev pub linked : View → ViewedEvent → Option ViewedThing → List ℕ
linked view event None = []
linked view event (Some thing) =
    if thing.opened == index_of event
    then reference_text (codes ", started ") view thing.started
    ++ (reference_text (codes ", to be canceled ") view thing.cancelling ++ ended_text view event.place thing.ended)
    else reference_text (codes ", opened ") view (Some thing.opened)

-- how an event is linked with its thing
abbrev pub link_text : View → ViewedEvent → List ℕ
link_text view event = linked view event (thing_of view event)

-- the words for what the reader of histories refuses
abbrev pub fault_words : ReadFault → List ℕ
fault_words (faults.BadNumber at) = codes "bad number"
fault_words (faults.OutOfOrder at) = codes "out of order"
fault_words (faults.UnsupportedEvent at name) = codes "not supported"
fault_words (faults.MissingField at) = codes "lacks a field"
fault_words (faults.BadTime at) = codes "bad time"
fault_words (faults.BadPayload at) = codes "bad payload"
fault_words (faults.ShorthandPayload at) = codes "shorthand payload"
fault_words (faults.UnsupportedMarker at name) = codes "marker not supported"
fault_words faults.TooLong = []
fault_words faults.BadJson = []
fault_words faults.NoEvents = []
fault_words faults.OutOfMemory = []

-- what is wrong with an event
abbrev pub marked : Option ReadFault → Bool → List ℕ
marked (Some fault) lacks = fault_words fault
marked None lacks = if lacks then codes "opened by no event" else []

-- what is wrong with an event of a view; empty if nothing is
abbrev pub mark_words : View → ViewedEvent → List ℕ
mark_words view event = marked event.read.fault (lacks_thing view event)

-- the name of a marker whose name is not supported; empty for an event of another type that is not
abbrev pub marker_by : Option EventKind → List ℕ → List ℕ
marker_by None id = []
marker_by (Some kind) id = id

abbrev pub marker_name : ViewedEvent → List ℕ
marker_name event = marker_by event.read.kind (event_id event)

-- what is wrong with an event, as its line tells it: not that its type is not supported
abbrev pub told_mark : View → ViewedEvent → List ℕ
told_mark view event = if is_unsupported event.read.fault then [] else mark_words view event

-- the attempt of an event, if it names one
abbrev pub attempt_text : ℕ → List ℕ
attempt_text attempt = if attempt == 0 then [] else codes ", attempt " ++ decimal attempt

-- how an event concerns its workflow, before its type
abbrev pub start_by : ℕ → EventUse → List ℕ
start_by task words.Completes = codes "task " ++ (decimal task ++ codes ": ")
start_by task words.Gives = codes "  gives "
start_by task words.Told = codes "  told "
start_by task words.Other = codes "  has "

-- how an event of a view concerns its workflow, before its type
abbrev pub start_text : View → ViewedEvent → List ℕ
start_text view event = start_by (task_of view event) (word_of event)
