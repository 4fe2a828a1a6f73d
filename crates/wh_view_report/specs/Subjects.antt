-- What an event is about: what a marker records, or else the id and the type of its thing.
use Rattle.std.specs.Prelude.{ℕ, ℤ, List, [], ◌++◌, codes, Bool, Option, Some, if◌then◌else◌}
use Rattle.std.specs.Fmt.{signed_decimal}
use Rattle.wh_events.specs.declared.kind.EventKind.{EventKind}
use Rattle.wh_events.specs.declared.kind.EventKind.TheVariants.{ChildWorkflowExecutionStarted}
use Rattle.wh_markers.specs.declared.forms.MarkerKind.{MarkerKind}
use Rattle.wh_markers.specs.declared.forms.MarkerKind.TheVariants.{LocalActivity, SideEffect, MutableSideEffect, Version, Patch, Other}
use Rattle.wh_markers.specs.declared.markers.RecordedMarker.{RecordedMarker}
use Rattle.wh_view.specs.Lookups.{event_id, event_type, opening_of}
use Rattle.wh_view.specs.declared.view.View.{View}
use Rattle.wh_view.specs.declared.view.ViewedEvent.{ViewedEvent}
use Rattle.wh_view_report.specs.Cut.{label_text}
use Rattle.wh_view_report.specs.Words.{attempt_text}

-- what a marker of the kind records, in a word or more; empty for a marker of none of the forms
abbrev pub marker_words : MarkerKind → List ℕ
marker_words LocalActivity = codes "local activity"
marker_words SideEffect = codes "side effect"
marker_words MutableSideEffect = codes "mutable side effect"
marker_words Version = codes "version"
marker_words Patch = codes "patch"
marker_words Other = []

-- the version of a change
abbrev pub version_by : MarkerKind → Option ℤ → List ℕ
version_by Version (Some number) = codes " " ++ signed_decimal number
version_by _ number = []

-- what a marker records, after a space: in words, its name, and its version
abbrev pub marker_text : RecordedMarker → List ℕ
marker_text marker =
    codes " " ++ (marker_words marker.kind
    ++ (label_text (codes " ") marker.name ++ version_by marker.kind marker.number))

-- the id and the type of the thing of an event
abbrev pub thing_text : View → ViewedEvent → List ℕ
thing_text view event =
    label_text (codes " ") (event_id (opening_of view event)) ++ label_text (codes " ") (event_type (opening_of view event))

-- what an event with a marker of the kind is about
abbrev pub subject_by : MarkerKind → View → ViewedEvent → List ℕ
subject_by Other view event = thing_text view event
subject_by kind view event = marker_text event.details.marker

unfoldable pub subject_text : View → ViewedEvent → List ℕ
subject_text view event = subject_by event.details.marker.kind view event

-- the attempt of a local activity
abbrev pub tries_by : MarkerKind → Option ℤ → List ℕ
tries_by LocalActivity (Some number) = codes ", attempt " ++ signed_decimal number
tries_by _ number = []

-- that a patch is deprecated
abbrev pub deprecated_text : Bool → List ℕ
deprecated_text deprecated = if deprecated then codes ", deprecated" else []

-- the run id of a child that has started
abbrev pub child_by : Option EventKind → List ℕ → List ℕ
child_by (Some (ChildWorkflowExecutionStarted _)) run_id = label_text (codes ", run id ") run_id
child_by _ run_id = []

abbrev pub child_text : ViewedEvent → List ℕ
child_text event = child_by event.read.kind event.details.execution_run_id

-- the attempt of a local activity, that a patch is deprecated, and the run of a child
abbrev pub note_text : ViewedEvent → List ℕ
note_text event =
    tries_by event.details.marker.kind event.details.marker.number
    ++ (deprecated_text event.details.marker.deprecated ++ child_text event)

-- the attempt of an event or of what its marker records, and what else is noted of them
unfoldable pub notes_text : ViewedEvent → List ℕ
notes_text event = attempt_text event.attempt ++ note_text event
