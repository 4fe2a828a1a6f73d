-- Texts of which those of a page are made.
use Rattle.std.specs.Prelude.{ℕ, Option, List, [], ◌∷◌, ◌++◌, codes, option_map}
use Rattle.wh_markers.specs.declared.markers.RecordedMarker.{RecordedMarker}
use Rattle.wh_html.specs.Times.{span_text}
use Rattle.wh_view_report.specs.Subjects.{deprecated_text, tries_by}

-- a text after a label; nothing if the text is empty
abbrev pub after_label : List ℕ → List ℕ → List ℕ
after_label label [] = []
after_label label (c ∷ cs) = label ++ c ∷ cs

-- what an event opens: its type with its id, or else its id alone
abbrev pub thing_text : (type_name id : List ℕ) → List ℕ
thing_text [] id = after_label (codes " ") id
thing_text (c ∷ cs) id = codes " " ++ (c ∷ cs ++ after_label (codes " #") id)

-- a length of time in words, if it is known
abbrev pub known_span : (millis : Option ℕ) → Option (List ℕ)
known_span millis = option_map span_text millis

-- what else is noted of a marker: the attempt of a local activity, and that a patch is deprecated
abbrev pub marker_notes : RecordedMarker → List ℕ
marker_notes marker = tries_by marker.kind marker.number ++ deprecated_text marker.deprecated
