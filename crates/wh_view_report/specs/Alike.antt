-- Which tasks of a history are alike: they have the same events about the same things, but for ids, numbers, times,
-- lengths of time and values. Types and names are the same in each letter and digit.
use Rattle.std.specs.Prelude.{ℕ, ◌&&◌, List, [], Bool, true, false, is_some, Option, Some, None, bytes_eq}
use Rattle.std.specs.Bool.{beq}
use Rattle.std.specs.Cmp.Lexicographic.{pointwise}
use Rattle.wh_events.specs.declared.kind.EventKind.{EventKind}
use Rattle.wh_events.specs.declared.kind.EventKind.TheVariants.{MarkerRecorded, WorkflowExecutionSignaled}
use Rattle.wh_markers.specs.declared.forms.MarkerKind.{MarkerKind}
use Rattle.wh_markers.specs.declared.forms.MarkerKind.TheVariants.{SideEffect}
use Rattle.wh_markers.specs.declared.markers.RecordedMarker.{RecordedMarker}
use Rattle.wh_view.specs.Lookups.{event_name, event_type, opening_of, thing_of}
use Rattle.wh_view.specs.declared.view.Ending.{Ending}
use Rattle.wh_view.specs.declared.view.View.{View}
use Rattle.wh_view.specs.declared.view.ViewedEvent.{ViewedEvent}
use Rattle.wh_view.specs.declared.view.ViewedFailure.{ViewedFailure}
use Rattle.wh_view.specs.declared.view.ViewedThing.{ViewedThing}
use Rattle.wh_view_report.specs.Digits.{alike_texts}
use Rattle.wh_view_report.specs.Subjects.{marker_words}
use Rattle.wh_view_report.specs.Words.{told_mark}

-- the name of the signal or the marker that an event of the kind brings; empty for another kind
abbrev pub name_by : Option EventKind → List ℕ
name_by (Some (WorkflowExecutionSignaled name _)) = name
name_by (Some (MarkerRecorded change_id _)) = change_id
name_by _ = []

-- two events have the same type, bring the same signal or marker, and are about things of the same type
abbrev pub alike_names : View → ViewedEvent → ViewedEvent → Bool
alike_names view one other =
    bytes_eq (event_name one) (event_name other)
    && (bytes_eq (name_by one.read.kind) (name_by other.read.kind)
    && bytes_eq (event_type (opening_of view one)) (event_type (opening_of view other)))

-- the type, name or id that markers of the kind must share: a side effect has an id that counts them, and need not
abbrev pub shared_name : MarkerKind → (name : List ℕ) → List ℕ
shared_name SideEffect name = []
shared_name _ name = name

-- two markers record the same, but for the id of a side effect, an attempt or a version
abbrev pub alike_markers : RecordedMarker → RecordedMarker → Bool
alike_markers one other =
    bytes_eq (marker_words one.kind) (marker_words other.kind)
    && (bytes_eq (shared_name one.kind one.name) (shared_name other.kind other.name)
    && beq one.deprecated other.deprecated)

-- two things have both started, or neither has, and likewise are to be canceled and have ended
abbrev pub alike_states : ViewedThing → ViewedThing → Bool
alike_states one other =
    beq (is_some one.started) (is_some other.started)
    && (beq (is_some one.cancelling) (is_some other.cancelling) && beq (is_some one.ended) (is_some other.ended))

-- there are no things, or two that have come equally far
abbrev pub alike_things : Option ViewedThing → Option ViewedThing → Bool
alike_things None None = true
alike_things (Some one) (Some other) = alike_states one other
alike_things _ _ = false

-- two failures have the same type and, but for digits, the same message
abbrev pub alike_failure : ViewedFailure → ViewedFailure → Bool
alike_failure one other = bytes_eq one.kind other.kind && alike_texts one.message other.message

-- two things ended for the same cause
abbrev pub alike_endings : Ending → Ending → Bool
alike_endings one other =
    bytes_eq one.cause other.cause
    && (bytes_eq one.timeout_type other.timeout_type && bytes_eq one.retry_state other.retry_state)

-- two events failed for the same reason, but for digits of messages, and the same is wrong with them
abbrev pub alike_reasons : View → ViewedEvent → ViewedEvent → Bool
alike_reasons view one other =
    alike_texts one.failure other.failure
    && (pointwise alike_failure one.details.failures other.details.failures
    && (alike_endings one.details.ending other.details.ending
    && bytes_eq (told_mark view one) (told_mark view other)))

-- two events are alike
unfoldable pub alike_event : View → ViewedEvent → ViewedEvent → Bool
alike_event view one other =
    alike_names view one other
    && (alike_markers one.details.marker other.details.marker
    && (alike_things (thing_of view one) (thing_of view other) && alike_reasons view one other))

-- two tasks have alike events, in the same order
abbrev pub alike_tasks : View → List ViewedEvent → List ViewedEvent → Bool
alike_tasks view one other = pointwise (alike_event view) one other
