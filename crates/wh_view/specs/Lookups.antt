-- Parts of a view and of its events.
use Rattle.std.specs.Prelude.{ℕ, ◌-◌, ◌&&◌, List, [], Bool, true, false, Option, Some, None, slice_get, is_none, option_and_then, unwrap_or}
use Rattle.wh_events.specs.declared.kind.EventKind.{EventKind}
use Rattle.wh_events.specs.declared.kind.EventKind.TheVariants as kinds
use Rattle.wh_view.specs.declared.parts.Part.{Part}
use Rattle.wh_view.specs.declared.parts.Part.TheVariants as parts
use Rattle.wh_view.specs.declared.view.View.{View}
use Rattle.wh_view.specs.declared.view.ViewedEvent.{ViewedEvent}
use Rattle.wh_view.specs.declared.view.ViewedThing.{ViewedThing}
use Rattle.wh_view.specs.declared.view.UpdateStep.{UpdateStep}
use Rattle.wh_view.specs.Parts.{part_of, step_of}
use Rattle.wh_view.specs.Updates.{name_of_step}

-- the id under which an event of the kind opens something, or the name of a signal or a marker
abbrev pub id_in : EventKind → List ℕ
id_in (kinds.ActivityTaskScheduled id _) = id
id_in (kinds.TimerStarted id) = id
id_in (kinds.StartChildWorkflowExecutionInitiated workflow_id _) = workflow_id
id_in (kinds.RequestCancelExternalWorkflowExecutionInitiated workflow_id) = workflow_id
id_in (kinds.SignalExternalWorkflowExecutionInitiated workflow_id _) = workflow_id
id_in (kinds.MarkerRecorded change_id _) = change_id
id_in (kinds.WorkflowExecutionSignaled name _) = name
id_in _ = []

-- the type that an event of the kind names, or the name of the signal that it sends
abbrev pub type_in : EventKind → List ℕ
type_in (kinds.WorkflowExecutionStarted workflow _) = workflow
type_in (kinds.StartChildWorkflowExecutionInitiated _ workflow) = workflow
type_in (kinds.ActivityTaskScheduled _ activity) = activity
type_in (kinds.SignalExternalWorkflowExecutionInitiated _ signal) = signal
type_in _ = []

-- the id and the type of an event; the other text if its kind is not known
abbrev pub id_of_kind : Option EventKind → (other : List ℕ) → List ℕ
id_of_kind None other = other
id_of_kind (Some kind) other = id_in kind

abbrev pub type_of_kind : Option EventKind → (other : List ℕ) → List ℕ
type_of_kind None other = other
type_of_kind (Some kind) other = type_in kind

-- the id under which an event opens a thing, the name of a signal or a marker, or the id of an update; empty if it has
-- none
abbrev pub event_id : ViewedEvent → List ℕ
event_id event = id_of_kind event.read.kind event.details.update.id

-- the type that an event names, or the name of the signal that it sends, or of an update; empty if it has none
abbrev pub event_type : ViewedEvent → List ℕ
event_type event = type_of_kind event.read.kind event.details.update.name

-- the plain name of an event's type, by the step of an update that it tells of
abbrev pub name_by : Option UpdateStep → (other : List ℕ) → List ℕ
name_by None other = other
name_by (Some step) other = name_of_step step

abbrev pub event_name : ViewedEvent → List ℕ
event_name event = name_by (step_of event) event.read.name

-- the index of an event among the events
abbrev pub index_of : ViewedEvent → ℕ
index_of event = event.place - 1

-- the inner value, if there is one
abbrev pub flattened : Option (Option ℕ) → Option ℕ
flattened None = None
flattened (Some o) = o

-- the thing of an event
abbrev pub thing_of : View → ViewedEvent → Option ViewedThing
thing_of view event = option_and_then (slice_get view.things) (flattened (slice_get view.links (index_of event)))

-- the event that opened a thing, or else the other one
abbrev pub opened_by : List ViewedEvent → ViewedEvent → Option ViewedThing → ViewedEvent
opened_by events event None = event
opened_by events event (Some thing) = unwrap_or (slice_get events thing.opened) event

-- the event that opened the thing of an event; the event itself if it has no thing
abbrev pub opening_of : View → ViewedEvent → ViewedEvent
opening_of view event = opened_by view.events event (thing_of view event)

-- the number of the task to which an event belongs
abbrev pub task_of : View → ViewedEvent → ℕ
task_of view event = unwrap_or (slice_get view.tasks (index_of event)) 0

-- the part is a reference
abbrev pub refers : Part → Bool
refers (parts.Refers _ _ _) = true
refers _ = false

-- an event refers to a thing that no event before it opened
abbrev pub lacks_thing : View → ViewedEvent → Bool
lacks_thing view event = refers (part_of event.read.kind) && is_none (thing_of view event)
