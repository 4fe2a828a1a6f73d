-- What an open run waits for.
use Rattle.std.specs.Prelude.{ℕ, List, [], ◌∷◌, ◌++◌, codes, Bool, true, is_some, is_none, Option, Some, None, slice_get, if◌then◌else◌}
use Rattle.std.specs.List.{flat_map, list_any}
use Rattle.wh_events.specs.declared.kind.EventKind.{EventKind}
use Rattle.wh_events.specs.declared.kind.EventKind.TheVariants.{WorkflowTaskTimedOut}
use Rattle.wh_html.specs.Times.{stamp_text}
use Rattle.wh_view.specs.Lookups.{event_id, event_type}
use Rattle.wh_view.specs.Runs.{status_of}
use Rattle.wh_view.specs.Times.{due_time}
use Rattle.wh_view.specs.Waiting.{open_task}
use Rattle.wh_view.specs.declared.view.OpenTask.{OpenTask}
use Rattle.wh_view.specs.declared.view.RunStatus.{RunStatus}
use Rattle.wh_view.specs.declared.view.RunStatus.TheVariants.{Running}
use Rattle.wh_view.specs.declared.view.ThingKind.{ThingKind}
use Rattle.wh_view.specs.declared.view.ThingKind.TheVariants as kinds
use Rattle.wh_view.specs.declared.view.View.{View}
use Rattle.wh_view.specs.declared.view.ViewedEvent.{ViewedEvent}
use Rattle.wh_view.specs.declared.view.ViewedThing.{ViewedThing}
use Rattle.wh_view_report.specs.Cut.{label_text}
use Rattle.wh_view_report.specs.Words.{number_text}

-- the kind of a thing, in a word or two
abbrev pub kind_text : ThingKind → List ℕ
kind_text kinds.Activity = codes "activity"
kind_text kinds.Timer = codes "timer"
kind_text kinds.Child = codes "child"
kind_text kinds.CancelRequest = codes "cancel request to"
kind_text kinds.SignalRequest = codes "signal request to"
kind_text kinds.Signal = codes "signal"
kind_text kinds.Marker = codes "marker"

-- when something is due, if that is known
abbrev pub until_text : Option ℕ → List ℕ
until_text None = []
until_text (Some millis) = codes " until " ++ stamp_text millis

-- the event that says that something has started
abbrev pub start_at : Option ViewedEvent → List ℕ
start_at None = []
start_at (Some event) = codes ", started " ++ (number_text event ++ label_text (codes " ") event.moment)

-- whether something has started
abbrev pub started_text : View → Option ℕ → List ℕ
started_text view None = codes ", not started"
started_text view (Some index) = start_at (slice_get view.events index)

-- what is told of the start of a thing: of a child whether it has started, of an activity that, if it is recorded
abbrev pub start_by : ThingKind → View → Option ℕ → List ℕ
start_by kinds.Activity view None = []
start_by kinds.Activity view (Some index) = started_text view (Some index)
start_by kinds.Child view started = started_text view started
start_by _ view started = []

abbrev pub thing_start : View → ViewedThing → List ℕ
thing_start view thing = start_by thing.kind view thing.started

-- a thing for which a run waits, which the event opened
unfoldable pub awaited_thing : View → ViewedThing → ViewedEvent → List ℕ
awaited_thing view thing event =
    kind_text thing.kind ++ (label_text (codes " ") (event_id event)
    ++ (label_text (codes " ") (event_type event) ++ (codes " " ++ (number_text event
    ++ (label_text (codes " since ") event.moment ++ (thing_start view thing ++ until_text (due_time view thing)))))))

-- that a run waits for a thing, if there is such an event
abbrev pub open_at : View → ViewedThing → Option ViewedEvent → List ℕ
open_at view thing None = []
open_at view thing (Some event) = codes "; waits for " ++ awaited_thing view thing event

-- that a run waits for a thing, if that has not ended
abbrev pub thing_text : View → ViewedThing → List ℕ
thing_text view thing = if is_some thing.ended then [] else open_at view thing (slice_get view.events thing.opened)

-- how an attempt of a workflow task ended, by the kind of the event that says so
abbrev pub end_word : Option EventKind → List ℕ
end_word (Some WorkflowTaskTimedOut) = codes "timed out"
end_word _ = codes "failed"

-- that the last attempt of a workflow task ended with the event
abbrev pub end_at : Option ViewedEvent → List ℕ
end_at None = []
end_at (Some event) =
    codes ", " ++ (end_word event.read.kind ++ (codes " " ++ (number_text event
    ++ (label_text (codes " ") event.moment ++ codes ", tried again"))))

abbrev pub failed_text : View → ℕ → List ℕ
failed_text view index = end_at (slice_get view.events index)

-- what is told of the attempts of a workflow task: that the last one ended, or else whether a worker has started it
abbrev pub attempt_by : View → (started : Option ℕ) → (failed : Option ℕ) → List ℕ
attempt_by view None (Some index) = failed_text view index
attempt_by view None None = started_text view None
attempt_by view (Some index) failed = started_text view (Some index)

abbrev pub attempt_text : View → OpenTask → List ℕ
attempt_text view task = attempt_by view task.started task.failed

-- a workflow task for which a run waits, which the event scheduled
abbrev pub awaited_task : View → OpenTask → ViewedEvent → List ℕ
awaited_task view task event =
    codes "a workflow task " ++ (number_text event ++ (label_text (codes " since ") event.moment
    ++ attempt_text view task))

-- that a run waits for a workflow task, if there is such an event
abbrev pub task_at : View → OpenTask → Option ViewedEvent → List ℕ
task_at view task None = []
task_at view task (Some event) = codes "; waits for " ++ awaited_task view task event

abbrev pub task_text : View → Option OpenTask → List ℕ
task_text view None = []
task_text view (Some task) = task_at view task (slice_get view.events task.scheduled)

-- a run waits for something that it started, or for a workflow task
abbrev pub waits_with : Option OpenTask → List ViewedThing → Bool
waits_with (Some task) things = true
waits_with None things = list_any (λ thing. is_none thing.ended) things

abbrev pub is_waiting : View → Bool
is_waiting view = waits_with (open_task view.events) view.things

-- the end of the line
abbrev pub end_text : View → List ℕ
end_text view =
    if is_waiting view then task_text view (open_task view.events) ++ 10 ∷ []
    else codes "; no activity, timer, child workflow, request or workflow task is open\n"

-- what an open run waits for, and the end of the line
abbrev pub items_text : View → List ℕ
items_text view = flat_map (thing_text view) view.things ++ end_text view

-- the line of a run that is open
abbrev pub open_line : View → List ℕ
open_line view = codes "running" ++ items_text view

-- what a run of the status waits for
abbrev pub waits_by : RunStatus → View → List ℕ
waits_by Running view = open_line view
waits_by _ view = []

unfoldable pub waits_line : View → List ℕ
waits_line view = waits_by (status_of view.events) view
