-- What a marker records.
use Rattle.std.specs.Prelude.{ℕ, ℤ, List, [], codes, Bool, false, Option, Some, None}
use Rattle.std.specs.Fmt.{signed_decimal}
use Rattle.serde_json.specs.Data.{Data}
use Rattle.wh_json.specs.Fields.{field, text_of}
use Rattle.wh_markers.specs.Forms.{Form, form_for}
use Rattle.wh_markers.specs.Scalars.{scalar_at}
use Rattle.wh_markers.specs.declared.forms.MarkerKind.TheVariants.{Other}
use Rattle.wh_markers.specs.declared.markers.RecordedMarker.{RecordedMarker}
use Rattle.wh_markers.specs.declared.scalars.Scalar.{Scalar}
use Rattle.wh_markers.specs.declared.scalars.Scalar.TheVariants.{Word, Number, Flag, Nothing}

-- the name that a value is: a text, or the digits of a number, such as the id of a side effect in Go
abbrev pub name_in : Scalar → List ℕ
name_in (Word text) = text
name_in (Number number) = signed_decimal number
name_in (Flag flag) = []
name_in Nothing = []

-- the number that a value is
abbrev pub number_in : Scalar → Option ℤ
number_in (Word text) = None
number_in (Number number) = Some number
number_in (Flag flag) = None
number_in Nothing = None

-- the value is `true`
abbrev pub is_true : Scalar → Bool
is_true (Word text) = false
is_true (Number number) = false
is_true (Flag flag) = flag
is_true Nothing = false

-- the value at a spot of the details
abbrev pub at_spot : List ℕ × List ℕ → Data → Scalar
at_spot spot details = scalar_at spot.0 spot.1 details

-- what a marker of none of the forms records
abbrev pub other_marker : RecordedMarker
other_marker = record { kind = Other; name = []; number = None; deprecated = false }

-- what a marker with these details records, if it is of the form
abbrev pub marker_of_form : Data → Form → RecordedMarker
marker_of_form details form = record {
  kind = form.kind;
  name = name_in (at_spot form.name details);
  number = number_in (at_spot form.number details);
  deprecated = is_true (at_spot form.deprecated details);
}

abbrev pub marker_by : Data → Option Form → RecordedMarker
marker_by details None = other_marker
marker_by details (Some form) = marker_of_form details form

-- what a marker of this name with these details records
abbrev pub marker_named : List ℕ → Option Data → RecordedMarker
marker_named name None = other_marker
marker_named name (Some details) = marker_by details (form_for name details)

-- what a marker records, by the attributes of its event
unfoldable pub marker_of : Option Data → RecordedMarker
marker_of attributes =
    marker_named (text_of (field (codes "markerName") attributes)) (field (codes "details") attributes)
