-- The things of a run, as the lanes of its page.
use Rattle.std.specs.Prelude.{ℕ, ℤ, ◌==◌, Bool, true, false, if◌then◌else◌, Option, Some, None, is_some, option_and_then, slice_get, List, [], ◌∷◌, ◌++◌, codes, decimal, map}
use Rattle.std.specs.Fmt.{signed_decimal}
use Rattle.std.specs.Option.{option_map}
use Rattle.wh_events.specs.declared.kind.EventKind.{EventKind}
use Rattle.wh_events.specs.declared.kind.EventKind.TheVariants as events
use Rattle.wh_html.specs.declared.page.Kind.{Kind}
use Rattle.wh_html.specs.declared.page.Kind.TheVariants as kinds
use Rattle.wh_html.specs.declared.page.ThingOutcome.{ThingOutcome}
use Rattle.wh_html.specs.declared.page.ThingOutcome.TheVariants as outcomes
use Rattle.wh_html.specs.declared.page.Lane.{Lane}
use Rattle.wh_html.specs.declared.page.Moment.{Moment}
use Rattle.wh_markers.specs.declared.forms.MarkerKind.{MarkerKind}
use Rattle.wh_markers.specs.declared.forms.MarkerKind.TheVariants as markers
use Rattle.wh_view.specs.declared.view.View.{View}
use Rattle.wh_view.specs.declared.view.ViewedEvent.{ViewedEvent}
use Rattle.wh_view.specs.declared.view.ViewedThing.{ViewedThing}
use Rattle.wh_view.specs.declared.view.ThingKind.{ThingKind}
use Rattle.wh_view.specs.declared.view.ThingKind.TheVariants as things
use Rattle.wh_view.specs.Lookups.{event_id, event_type}
use Rattle.wh_view.specs.Sums.{is_failure}
use Rattle.wh_view.specs.Times.{queue_time}
use Rattle.wh_view_report.specs.Spans.{time_taken}
use Rattle.wh_view_report.specs.Subjects.{marker_words}
use Rattle.wh_run_page.specs.declared.rows.PlacedThing.{PlacedThing}
use Rattle.wh_run_page.specs.Moments.{event_at, moment_of, moment_or}
use Rattle.wh_run_page.specs.Causes.{reason, ending_words}
use Rattle.wh_run_page.specs.Words.{known_span, marker_notes}

-- the kind of a lane
abbrev pub lane_kind : ThingKind → Kind
lane_kind things.Activity = kinds.Activity
lane_kind things.Timer = kinds.Timer
lane_kind things.Child = kinds.Child
lane_kind things.CancelRequest = kinds.Request
lane_kind things.SignalRequest = kinds.Request
lane_kind things.Signal = kinds.Signal
lane_kind things.Marker = kinds.Marker

-- what ends with an event of the kind was canceled
abbrev pub is_canceling : EventKind → Bool
is_canceling (events.ActivityTaskCanceled _) = true
is_canceling (events.TimerCanceled _) = true
is_canceling (events.ChildWorkflowExecutionCanceled _) = true
is_canceling _ = false

abbrev pub is_canceling_if : Option EventKind → Bool
is_canceling_if None = false
is_canceling_if (Some kind) = is_canceling kind

abbrev pub is_cancellation : ViewedEvent → Bool
is_cancellation event = is_canceling_if event.read.kind

-- the outcome of a thing that ended with the event: a failure, as the sums by type count it, a cancellation, or neither
abbrev pub outcome_by : ViewedEvent → ThingOutcome
outcome_by event =
    if is_failure event then outcomes.Failed else (if is_cancellation event then outcomes.Canceled else outcomes.Done)

-- the outcome of a thing that ended with an event of the kind, in a word
abbrev pub outcome_word : EventKind → List ℕ
outcome_word (events.ActivityTaskFailed _) = codes "failed"
outcome_word (events.ActivityTaskTimedOut _) = codes "timed out"
outcome_word (events.ActivityTaskCanceled _) = codes "canceled"
outcome_word (events.TimerFired _) = codes "fired"
outcome_word (events.TimerCanceled _) = codes "canceled"
outcome_word (events.ChildWorkflowExecutionFailed _) = codes "failed"
outcome_word (events.ChildWorkflowExecutionCanceled _) = codes "canceled"
outcome_word (events.ChildWorkflowExecutionTimedOut _) = codes "timed out"
outcome_word (events.ChildWorkflowExecutionTerminated _) = codes "terminated"
outcome_word (events.StartChildWorkflowExecutionFailed _) = codes "not started"
outcome_word (events.ExternalWorkflowExecutionCancelRequested _) = codes "delivered"
outcome_word (events.RequestCancelExternalWorkflowExecutionFailed _) = codes "failed"
outcome_word (events.ExternalWorkflowExecutionSignaled _) = codes "delivered"
outcome_word (events.SignalExternalWorkflowExecutionFailed _) = codes "failed"
outcome_word (events.WorkflowExecutionSignaled _ _) = codes "received"
outcome_word (events.MarkerRecorded _ _) = codes "recorded"
outcome_word _ = codes "completed"

-- the outcome of a thing, by the event that ended it, if there is one
abbrev pub outcome_at : Option ViewedEvent → ThingOutcome
outcome_at None = outcomes.Open
outcome_at (Some event) = outcome_by event

-- that outcome in a word, by the kind of the event, if it is known
abbrev pub word_of_kind : Option EventKind → List ℕ
word_of_kind None = codes "ended"
word_of_kind (Some kind) = outcome_word kind

-- the version that a marker of the kind records, or else the word
abbrev pub version_or_word : MarkerKind → (number : Option ℤ) → (word : List ℕ) → List ℕ
version_or_word markers.Version (Some number) word = codes "version " ++ signed_decimal number
version_or_word _ number word = word

-- the outcome of a thing that ended with the event: the version of a change, or else a word
abbrev pub end_word : ViewedEvent → List ℕ
end_word event =
    version_or_word event.details.marker.kind event.details.marker.number (word_of_kind event.read.kind)

-- that outcome, with what else is noted of a marker
abbrev pub end_words : ViewedEvent → List ℕ
end_words event = end_word event ++ marker_notes event.details.marker

-- the event that requested the cancellation of a thing, if one did
abbrev pub cancel_words : Option Moment → List ℕ
cancel_words None = []
cancel_words (Some moment) = codes ", cancellation requested by event " ++ decimal moment.event

-- the outcome of a thing in words, with the failure and its causes, why it was not tried again, and the event that
-- requested its cancellation
abbrev pub outcome_words : Option ViewedEvent → (cancelling : Option Moment) → List ℕ
outcome_words None cancelling = codes "open" ++ cancel_words cancelling
outcome_words (Some event) cancelling =
    end_words event ++ (reason (codes ": ") event ++ (ending_words event ++ cancel_words cancelling))

-- the type of what an event opened: of what a marker of the kind records its name, but of a side effect its kind, since
-- many have a number alone
abbrev pub type_by : MarkerKind → (name type_name : List ℕ) → List ℕ
type_by markers.Other name type_name = type_name
type_by markers.SideEffect name type_name = marker_words markers.SideEffect
type_by kind name type_name = name

abbrev pub lane_type : ViewedEvent → List ℕ
lane_type event = type_by event.details.marker.kind event.details.marker.name (event_type event)

-- the id beside that type: of what a marker of the kind records its kind, but of a side effect its name
abbrev pub id_by : MarkerKind → (name id : List ℕ) → List ℕ
id_by markers.Other name id = id
id_by markers.SideEffect name id = name
id_by kind name id = marker_words kind

abbrev pub lane_id : ViewedEvent → List ℕ
lane_id event = id_by event.details.marker.kind event.details.marker.name (event_id event)

-- that id and that type, if there is an event
abbrev pub id_at : Option ViewedEvent → List ℕ
id_at None = []
id_at (Some event) = lane_id event

abbrev pub type_at : Option ViewedEvent → List ℕ
type_at None = []
type_at (Some event) = lane_type event

-- a text, if it is not empty
abbrev pub text_if : List ℕ → Option (List ℕ)
text_if [] = None
text_if (c ∷ cs) = Some (c ∷ cs)

-- a number, if it is not 0
abbrev pub number_if : ℕ → Option ℕ
number_if n = if n == 0 then None else Some n

-- the attempt that an event names, if it names one
abbrev pub attempt_at : Option ViewedEvent → Option ℕ
attempt_at None = None
attempt_at (Some event) = number_if event.attempt

-- there is an index, and it is this one
abbrev pub is_index : ℕ → Option ℕ → Bool
is_index at None = false
is_index at (Some index) = index == at

-- the index of the event that ended a thing, unless the same event opened it
abbrev pub later_end : ViewedThing → Option ℕ
later_end thing = if is_index thing.opened thing.ended then None else thing.ended

-- how long a thing took, as the lines of its events tell it: nothing of what ended with the event that opened it
abbrev pub time_told : View → ViewedThing → Option ℕ
time_told view thing = if is_some (later_end thing) then time_taken view thing else None

-- the lane of a thing with its row: its events are those of the thing, and it waited and took what their lines say
unfoldable pub lane_of : View → List ℕ → PlacedThing → Lane
lane_of view times placed =
    let thing = placed.thing in
    let opening = event_at view.events (Some thing.opened) in
    let starting = event_at view.events thing.started in
    let ending = event_at view.events thing.ended in
    let cancelling = option_map (moment_of times) (event_at view.events thing.cancelling) in
    record {
      kind = lane_kind thing.kind;
      name = id_at opening;
      type_name = text_if (type_at opening);
      opened = moment_or times opening;
      started = option_map (moment_of times) starting;
      cancelling = cancelling;
      ended = option_map (moment_of times) (event_at view.events (later_end thing));
      waited = known_span (queue_time view thing);
      took = known_span (time_told view thing);
      outcome = outcome_at ending;
      words = outcome_words ending cancelling;
      attempts = attempt_at starting;
      row = placed.row;
      part = placed.part;
    }

-- the lanes of things with their rows
abbrev pub lanes_of : View → List ℕ → List PlacedThing → List Lane
lanes_of view times placed = map (lane_of view times) placed
