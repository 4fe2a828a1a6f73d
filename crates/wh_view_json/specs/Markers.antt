-- What a marker records, and the run of a child, as members of the object of an event.
use Rattle.std.specs.Prelude.{ℕ, ℤ, List, [], ◌++◌, codes, Bool, Option, Some, None, if◌then◌else◌}
use Rattle.std.specs.Fmt.{signed_decimal}
use Rattle.wh_events.specs.declared.kind.EventKind.{EventKind}
use Rattle.wh_events.specs.declared.kind.EventKind.TheVariants.{ChildWorkflowExecutionStarted}
use Rattle.wh_markers.specs.declared.forms.MarkerKind.{MarkerKind}
use Rattle.wh_markers.specs.declared.forms.MarkerKind.TheVariants.{LocalActivity, SideEffect, MutableSideEffect, Version, Patch, Other}
use Rattle.wh_markers.specs.declared.markers.RecordedMarker.{RecordedMarker}
use Rattle.wh_view.specs.declared.view.ViewedEvent.{ViewedEvent}
use Rattle.wh_view_json.specs.Texts.{text_member}

-- what a marker records, in a word
abbrev pub marker_word : MarkerKind → List ℕ
marker_word LocalActivity = codes "localActivity"
marker_word SideEffect = codes "sideEffect"
marker_word MutableSideEffect = codes "mutableSideEffect"
marker_word Version = codes "version"
marker_word Patch = codes "patch"
marker_word Other = codes "other"

-- what the number of a marker is: the attempt of a local activity, or else a version
abbrev pub number_key : MarkerKind → List ℕ
number_key LocalActivity = codes "attempt"
number_key _ = codes "version"

-- the number of a marker, as a further member of an object
abbrev pub count_member : MarkerKind → Option ℤ → List ℕ
count_member kind None = []
count_member kind (Some number) = codes ",\"" ++ (number_key kind ++ (codes "\":" ++ signed_decimal number))

-- that a patch is deprecated, as a further member of an object
abbrev pub deprecated_member : Bool → List ℕ
deprecated_member deprecated = if deprecated then codes ",\"deprecated\":true" else []

-- the members of what a marker records
abbrev pub named_members : RecordedMarker → List ℕ
named_members marker =
    text_member (codes "name") marker.name
    ++ (count_member marker.kind marker.number ++ deprecated_member marker.deprecated)

-- what a marker of the kind records, as a further member of an object
abbrev pub recorded_by : MarkerKind → RecordedMarker → List ℕ
recorded_by Other marker = []
recorded_by kind marker =
    codes ",\"marker\":{\"kind\":\"" ++ (marker_word kind ++ (codes "\"" ++ (named_members marker ++ codes "}")))

abbrev pub recorded_member : RecordedMarker → List ℕ
recorded_member marker = recorded_by marker.kind marker

-- the run id of a child that has started, as a further member of an object
abbrev pub child_by : Option EventKind → List ℕ → List ℕ
child_by (Some (ChildWorkflowExecutionStarted _)) run_id = text_member (codes "childRunId") run_id
child_by _ run_id = []

abbrev pub child_member : ViewedEvent → List ℕ
child_member event = child_by event.read.kind event.details.execution_run_id

-- the members of an event that its details give
unfoldable pub detail_members : ViewedEvent → List ℕ
detail_members event = recorded_member event.details.marker ++ child_member event
