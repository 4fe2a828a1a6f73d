-- The text of an event on a page.
use Rattle.std.specs.Prelude.{ℕ, List, ◌++◌, codes}
use Rattle.std.specs.List.{flat_map}
use Rattle.wh_markers.specs.declared.forms.MarkerKind.{MarkerKind}
use Rattle.wh_markers.specs.declared.forms.MarkerKind.TheVariants.{Other}
use Rattle.wh_markers.specs.declared.markers.RecordedMarker.{RecordedMarker}
use Rattle.wh_view.specs.declared.view.View.{View}
use Rattle.wh_view.specs.declared.view.ViewedEvent.{ViewedEvent}
use Rattle.wh_view.specs.Lookups.{opening_of, event_id, event_name, event_type}
use Rattle.wh_view_report.specs.Subjects.{marker_text}
use Rattle.wh_view_report.specs.Words.{attempt_text, mark_words}
use Rattle.wh_run_page.specs.Words.{after_label, marker_notes, thing_text}
use Rattle.wh_run_page.specs.Causes.{reason, ending_words}

-- a value of an event
abbrev pub value_text : List ℕ → List ℕ
value_text value = codes "; " ++ value

-- what an event with a marker of the kind is about: what that records, as the report says it, or else its thing
abbrev pub subject_by : MarkerKind → RecordedMarker → (thing : List ℕ) → List ℕ
subject_by Other marker thing = thing
subject_by kind marker thing = marker_text marker

-- what an event is about: what its marker records, or else its thing, by the event that opened it
abbrev pub subject_text : View → ViewedEvent → List ℕ
subject_text view event =
    let opening = opening_of view event in
    subject_by event.details.marker.kind event.details.marker (thing_text (event_type opening) (event_id opening))

-- an event by the plain name of its type, and by what it is about
unfoldable pub title_text : View → ViewedEvent → List ℕ
title_text view event = event_name event ++ subject_text view event

-- the attempt of an event, and what else is noted of its marker
abbrev pub notes_text : ViewedEvent → List ℕ
notes_text event = attempt_text event.attempt ++ marker_notes event.details.marker

-- the text of an event: its type and what it is about, its attempt, the duration of a timer, why something failed and was
-- not tried again, what is wrong with it, and its values
unfoldable pub event_words : View → ViewedEvent → List ℕ
event_words view event =
    title_text view event
    ++ (notes_text event
    ++ (after_label (codes ", ") event.duration
    ++ (reason (codes ", because ") event ++ (ending_words event
    ++ (after_label (codes ", ") (mark_words view event) ++ flat_map value_text event.payloads)))))
