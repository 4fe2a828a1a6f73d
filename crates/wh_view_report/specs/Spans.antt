-- How long things waited and took, and how long timers are.
use Rattle.std.specs.Prelude.{ℕ, ◌==◌, ◌&&◌, not, Bool, false, is_some, List, [], ◌++◌, codes, Option, Some, None, if◌then◌else◌}
use Rattle.wh_html.specs.Times.{span_text}
use Rattle.wh_times.specs.Durations.{duration_in}
use Rattle.wh_view.specs.Lookups.{index_of, thing_of}
use Rattle.wh_view.specs.Times.{queue_time, work_time, whole_time}
use Rattle.wh_view.specs.declared.view.View.{View}
use Rattle.wh_view.specs.declared.view.ViewedEvent.{ViewedEvent}
use Rattle.wh_view.specs.declared.view.ViewedThing.{ViewedThing}
use Rattle.wh_view_report.specs.Cut.{label_text}

-- a length of time after a label; nothing if it is not known
abbrev pub label_span : List ℕ → Option ℕ → List ℕ
label_span label None = []
label_span label (Some millis) = label ++ span_text millis

-- the duration of a timer, or the text if it is none
abbrev pub duration_or : Option ℕ → List ℕ → List ℕ
duration_or None text = label_text (codes ", ") text
duration_or (Some millis) text = codes ", " ++ span_text millis

abbrev pub duration_text : List ℕ → List ℕ
duration_text text = duration_or (duration_in text) text

-- the event at an index is that of a step
abbrev pub is_at : Option ℕ → ℕ → Bool
is_at None index = false
is_at (Some other) index = other == index

-- how long a thing took: from its start to its end, or from its opening if it was not started
abbrev pub time_taken : View → ViewedThing → Option ℕ
time_taken view thing = if is_some thing.started then work_time view thing else whole_time view thing

-- how long a thing waited, if the event at the index starts it, or took, if that ends it
abbrev pub thing_span : View → ViewedThing → ℕ → List ℕ
thing_span view thing index =
    if is_at thing.started index then label_span (codes ", waited ") (queue_time view thing)
    else (if is_at thing.ended index && not (thing.opened == index) then label_span (codes ", took ") (time_taken view thing)
    else [])

abbrev pub span_of_thing : View → Option ViewedThing → ℕ → List ℕ
span_of_thing view None index = []
span_of_thing view (Some thing) index = thing_span view thing index

-- how long the thing of an event waited or took
unfoldable pub step_span : View → ViewedEvent → List ℕ
step_span view event = span_of_thing view (thing_of view event) (index_of event)
