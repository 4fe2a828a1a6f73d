-- The forms in which the SDKs of Temporal record markers: where in its details a marker names what it records.
use Rattle.std.specs.Prelude.{ℕ, ◌&&◌, List, [], ◌∷◌, codes, map, Bool, true, bytes_eq, is_some, Option, Some}
use Rattle.std.specs.List.{find}
use Rattle.serde_json.specs.Data.{Data}
use Rattle.wh_json.specs.Fields.{field}
use Rattle.wh_markers.specs.declared.forms.MarkerForm.{MarkerForm}
use Rattle.wh_markers.specs.declared.forms.MarkerKind.{MarkerKind}
use Rattle.wh_markers.specs.declared.forms.MarkerKind.TheVariants as kinds

-- a form: a spot is the key of a detail and the name of a member, as `scalar_at` reads them
pub record Form : Type 0 where
  -- the name of the marker
  pub marker : List ℕ
  -- what it records
  pub kind : MarkerKind
  -- the spots of the name or the id of that, of its number, and of whether it is deprecated
  pub name : List ℕ × List ℕ
  pub number : List ℕ × List ℕ
  pub deprecated : List ℕ × List ℕ

-- the value of a detail, a member of it, and no spot
abbrev whole : List ℕ → List ℕ × List ℕ
whole detail = (detail, [])

abbrev within : (detail member : List ℕ) → List ℕ × List ℕ
within detail member = (detail, member)

abbrev nowhere : List ℕ × List ℕ
nowhere = ([], [])

-- the version of a change, a side effect, and a local activity
abbrev version : (name : List ℕ × List ℕ) → Form
version name = record {
  marker = codes "Version";
  kind = kinds.Version;
  name = name;
  number = whole (codes "version");
  deprecated = nowhere;
}

abbrev side_effect : List ℕ → MarkerKind → (name : List ℕ × List ℕ) → Form
side_effect marker kind name = record {
  marker = marker;
  kind = kind;
  name = name;
  number = nowhere;
  deprecated = nowhere;
}

abbrev local_activity : List ℕ → (name number : List ℕ × List ℕ) → Form
local_activity marker name number = record {
  marker = marker;
  kind = kinds.LocalActivity;
  name = name;
  number = number;
  deprecated = nowhere;
}

abbrev patch : Form
patch = record {
  marker = codes "core_patch";
  kind = kinds.Patch;
  name = within (codes "patch-data") (codes "id");
  number = nowhere;
  deprecated = within (codes "patch-data") (codes "deprecated");
}

-- the forms that the SDKs use, by their sources
abbrev pub documented : List Form
documented =
    version (whole (codes "change-id"))
    ∷ version (whole (codes "changeId"))
    ∷ side_effect (codes "SideEffect") kinds.SideEffect (whole (codes "side-effect-id"))
    ∷ side_effect (codes "SideEffect") kinds.SideEffect nowhere
    ∷ side_effect (codes "MutableSideEffect") kinds.MutableSideEffect (whole (codes "side-effect-id"))
    ∷ side_effect (codes "MutableSideEffect") kinds.MutableSideEffect (whole (codes "id"))
    ∷ local_activity (codes "LocalActivity") (whole (codes "type")) (within (codes "meta") (codes "atpt"))
    ∷ local_activity (codes "LocalActivity") (within (codes "data") (codes "ActivityType"))
    (within (codes "data") (codes "Attempt"))
    ∷ patch
    ∷ local_activity (codes "core_local_activity") (within (codes "data") (codes "activity_type"))
    (within (codes "data") (codes "attempt"))
    ∷ []

-- the details have one with the key, or the key is empty
abbrev pub has_detail : List ℕ → Data → Bool
has_detail [] details = true
has_detail (c ∷ cs) details = is_some (field (c ∷ cs) (Some details))

-- a marker of this name with these details is of the form: it has the form's name, and a detail in which it names what
-- it records
abbrev pub is_of_form : List ℕ → Data → Form → Bool
is_of_form marker details form = bytes_eq form.marker marker && has_detail form.name.0 details

-- the first form of which a marker is
unfoldable pub form_for : List ℕ → Data → Option Form
form_for marker details = find (is_of_form marker details) documented

-- the form that a row of the program's table is
abbrev pub form_of : MarkerForm → Form
form_of row = record {
  marker = row.marker.now;
  kind = row.kind;
  name = (row.name.detail.now, row.name.member.now);
  number = (row.number.detail.now, row.number.member.now);
  deprecated = (row.deprecated.detail.now, row.deprecated.member.now);
}

-- the first form of which a marker is, among those of some rows
unfoldable pub form_among : List MarkerForm → List ℕ → Data → Option Form
form_among rows marker details = find (is_of_form marker details) (map form_of rows)
