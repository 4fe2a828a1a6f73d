-- A view as lines of JSON: an object for each event.
use Rattle.std.specs.Prelude.{ℕ, List, [], ◌∷◌, ◌++◌, length, codes, decimal, Option, Some, None, slice_get, option_map, option_and_then, if◌then◌else◌}
use Rattle.std.specs.List.{flat_map}
use Rattle.wh_view_report.specs.declared.text.TaskRange.{TaskRange}
use Rattle.wh_console.specs.declared.selection.Selection.{Selection}
use Rattle.wh_view.specs.declared.view.View.{View}
use Rattle.wh_view.specs.declared.view.ViewedEvent.{ViewedEvent}
use Rattle.wh_view.specs.declared.view.ViewedThing.{ViewedThing}
use Rattle.wh_view.specs.declared.view.UnsupportedKind.{UnsupportedKind}
use Rattle.wh_view.specs.Parts.{word_of}
use Rattle.wh_view.specs.declared.parts.EventUse.{EventUse}
use Rattle.wh_view.specs.declared.parts.EventUse.TheVariants as words
use Rattle.wh_view_report.specs.Texts.{completed_count, is_within, span_of}
use Rattle.wh_view.specs.Lookups.{thing_of, task_of}
use Rattle.wh_tester.specs.Json.{escaped}
use Rattle.wh_tester.specs.Report.{shown}
use Rattle.wh_view.specs.Times.{queue_time}
use Rattle.wh_view_json.specs.Markers.{detail_members}
use Rattle.wh_view_json.specs.Parts.{kind_word, place_at, place_member}
use Rattle.wh_view_json.specs.Run.{run_member, wait_objects}
use Rattle.wh_view_json.specs.Sums.{type_object}
use Rattle.wh_view_json.specs.Texts.{seconds_member}
use Rattle.wh_view_report.specs.Spans.{time_taken}
use Rattle.wh_view_report.specs.Words.{mark_words, marker_name}

-- the number of an event, if it has one, as a further member of an object
abbrev pub number_member : Option ℕ → List ℕ
number_member None = []
number_member (Some number) = codes ",\"event\":" ++ decimal number

-- how an event concerns the worker, in a word
abbrev pub side_word : EventUse → List ℕ
side_word words.Completes = codes "completes"
side_word words.Gives = codes "gives"
side_word words.Told = codes "told"
side_word words.Other = codes "other"

-- how an event of a view concerns the worker, in a word
abbrev pub side_of : ViewedEvent → List ℕ
side_of event = side_word (word_of event)

-- a thing, as a further member of an object
abbrev pub thing_member : View → Option ViewedThing → List ℕ
thing_member view None = []
thing_member view (Some thing) =
    codes ",\"thing\":{\"kind\":\"" ++ (kind_word thing.kind ++ (codes "\""
    ++ (place_member (codes "opened") (place_at view (Some thing.opened))
    ++ (place_member (codes "started") (place_at view thing.started)
    ++ (place_member (codes "cancelling") (place_at view thing.cancelling)
    ++ (place_member (codes "ended") (place_at view thing.ended)
    ++ (seconds_member (codes "waited") (queue_time view thing)
    ++ (seconds_member (codes "took") (time_taken view thing) ++ codes "}"))))))))

-- what is wrong with an event, as a further member of an object
abbrev pub mark_member : List ℕ → List ℕ
mark_member [] = []
mark_member (c ∷ cs) = codes ",\"mark\":\"" ++ ((c ∷ cs) ++ codes "\"")

-- the thing of an event, as a further member of an object
abbrev pub linked_member : View → ViewedEvent → List ℕ
linked_member view event = thing_member view (thing_of view event)

-- the first members of an event
abbrev pub first_members : ℕ → Option ℕ → ℕ → List ℕ → List ℕ → List ℕ
first_members place number task side mark =
    codes "\"place\":" ++ (decimal place ++ (number_member number
    ++ (codes ",\"task\":" ++ (decimal task
    ++ (codes ",\"is\":\"" ++ (side ++ (codes "\"" ++ mark_member mark)))))))

-- the object of an event
unfoldable pub event_object : View → ViewedEvent → List ℕ
event_object view event =
    codes "{"
    ++ (first_members event.place event.read.number (task_of view event) (side_of event) (mark_words view event)
    ++ (linked_member view event ++ (detail_members event
    ++ (codes ",\"recorded\":" ++ (event.json ++ codes "}\n")))))

-- the object of an event, if it belongs to one of the tasks
abbrev pub within_object : View → TaskRange → ViewedEvent → List ℕ
within_object view span event = if is_within view span event then event_object view event else []

-- the object with the counts and the run
abbrev pub counts_object : View → (events tasks things : ℕ) → List ℕ
counts_object view events tasks things =
    codes "{\"events\":" ++ (decimal events ++ (codes ",\"tasks\":" ++ (decimal tasks
    ++ (codes ",\"things\":" ++ (decimal things ++ (run_member view ++ codes "}\n"))))))

-- the object with the counts and the run of a view
abbrev pub head_object : View → List ℕ
head_object view = counts_object view (length view.events) (completed_count view.events) (length view.things)

-- the name of a marker, if there is one, as a further member of an object
abbrev pub marker_member : List ℕ → List ℕ
marker_member [] = []
marker_member (c ∷ cs) = codes ",\"marker\":\"" ++ (escaped (shown (c ∷ cs)) ++ codes "\"")

-- the object of a kind that is not supported, from its first event
unfoldable pub kind_object : View → (count : ℕ) → ViewedEvent → List ℕ
kind_object view count event =
    codes "{\"mark\":\"" ++ (mark_words view event ++ (codes "\",\"type\":\"" ++ (escaped (shown event.read.name)
    ++ (codes "\"" ++ (marker_member (marker_name event) ++ (codes ",\"events\":" ++ (decimal count
    ++ (codes ",\"place\":" ++ (decimal event.place ++ codes "}\n")))))))))

-- that object, if there is a first event
abbrev pub kind_object_at : View → (count : ℕ) → Option ViewedEvent → List ℕ
kind_object_at view count None = []
kind_object_at view count (Some event) = kind_object view count event

-- the object of a kind that is not supported
abbrev pub unsupported_object : View → UnsupportedKind → List ℕ
unsupported_object view kind = kind_object_at view kind.count (slice_get view.events kind.first)

-- the first objects: the counts, and an object for each kind that is not supported
abbrev pub top_objects : View → List ℕ
top_objects view = head_object view ++ flat_map (unsupported_object view) view.unsupported

-- the objects of what an open run waits for, and of the types of its things
abbrev pub state_objects : View → List ℕ
state_objects view = wait_objects view ++ flat_map (type_object view) view.sums

-- the objects of the events of some tasks, and those of the whole run
abbrev pub rest_objects : View → TaskRange → List ℕ
rest_objects view span = flat_map (within_object view span) view.events ++ state_objects view

-- the objects of some tasks
unfoldable pub span_objects : View → TaskRange → List ℕ
span_objects view span = top_objects view ++ rest_objects view span

-- the whole report
abbrev pub view_objects : View → Selection → List ℕ
view_objects view selection = span_objects view (span_of view selection)
