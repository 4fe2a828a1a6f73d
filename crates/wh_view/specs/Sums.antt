-- What the activities, timers and child workflows of each type come to.
use Rattle.std.specs.Prelude.{ℕ, List, [], ◌∷◌, ◌++◌, codes, Bool, true, false, Option, Some, None, slice_get, if◌then◌else◌}
use Rattle.std.specs.List.{flat_map}
use Rattle.wh_events.specs.declared.kind.EventKind.{EventKind}
use Rattle.wh_events.specs.declared.kind.EventKind.TheVariants as events
use Rattle.wh_times.specs.declared.sums.Outcome.{Outcome}
use Rattle.wh_times.specs.declared.sums.Outcome.TheVariants.{Open, Failed, Ended}
use Rattle.wh_times.specs.declared.sums.TimedThing.{TimedThing}
use Rattle.wh_times.specs.declared.sums.TypedThing.{TypedThing}
use Rattle.wh_view.specs.Lookups.{event_type}
use Rattle.wh_view.specs.Times.{whole_time}
use Rattle.wh_view.specs.declared.view.ThingKind.{ThingKind}
use Rattle.wh_view.specs.declared.view.ThingKind.TheVariants as kinds
use Rattle.wh_view.specs.declared.view.View.{View}
use Rattle.wh_view.specs.declared.view.ViewedEvent.{ViewedEvent}
use Rattle.wh_view.specs.declared.view.ViewedThing.{ViewedThing}

-- what ends with an event of the kind failed, timed out, was terminated, or could not be started or reached
abbrev pub is_failing : EventKind → Bool
is_failing (events.ActivityTaskFailed _) = true
is_failing (events.ActivityTaskTimedOut _) = true
is_failing (events.ChildWorkflowExecutionFailed _) = true
is_failing (events.ChildWorkflowExecutionTimedOut _) = true
is_failing (events.ChildWorkflowExecutionTerminated _) = true
is_failing (events.StartChildWorkflowExecutionFailed _) = true
is_failing (events.RequestCancelExternalWorkflowExecutionFailed _) = true
is_failing (events.SignalExternalWorkflowExecutionFailed _) = true
is_failing _ = false

abbrev pub is_failing_if : Option EventKind → Bool
is_failing_if None = false
is_failing_if (Some kind) = is_failing kind

abbrev pub is_failure : ViewedEvent → Bool
is_failure event = is_failing_if event.read.kind

-- how something ended with an event, if there is one
abbrev pub outcome_at : Option ViewedEvent → Outcome
outcome_at None = Ended
outcome_at (Some event) = if is_failure event then Failed else Ended

-- how a thing has ended
abbrev pub outcome_by : View → Option ℕ → Outcome
outcome_by view None = Open
outcome_by view (Some index) = outcome_at (slice_get view.events index)

abbrev pub outcome_of : View → ViewedThing → Outcome
outcome_of view thing = outcome_by view thing.ended

-- how a thing went; its time is the whole time from its opening to its end
abbrev pub timed_thing : View → ViewedThing → TimedThing
timed_thing view thing =
    record { opened = thing.opened; outcome = outcome_of view thing; millis = whole_time view thing }

-- the word for the things of a kind, if they are summed
abbrev pub summed_word : ThingKind → Option (List ℕ)
summed_word kinds.Activity = Some (codes "activity")
summed_word kinds.Timer = Some (codes "timer")
summed_word kinds.Child = Some (codes "child")
summed_word _ = None

-- the type that the event at an index names, if there is one
abbrev pub type_by : Option ViewedEvent → List ℕ
type_by None = []
type_by (Some event) = event_type event

abbrev pub type_at : View → ℕ → List ℕ
type_at view index = type_by (slice_get view.events index)

-- a thing with its type, which has the word for its kind before it
abbrev pub typed_by : View → ViewedThing → Option (List ℕ) → List TypedThing
typed_by view thing None = []
typed_by view thing (Some word) =
    record { type_name = word ++ (codes " " ++ type_at view thing.opened); thing = timed_thing view thing } ∷ []

abbrev pub typed_thing : View → ViewedThing → List TypedThing
typed_thing view thing = typed_by view thing (summed_word thing.kind)

-- the activities, timers and child workflows of a view
unfoldable pub typed_things : View → List TypedThing
typed_things view = flat_map (typed_thing view) view.things
