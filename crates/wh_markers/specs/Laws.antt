-- What holds of markers.
use Rattle.std.specs.Prelude.{◌≡◌, ℕ, ℤ, pos, List, [], codes, decimal, bytes_eq, Bool, false, Option, Some, None}
use Rattle.std.specs.List.{list_any}
use Rattle.serde_json.specs.Data.{Data, boolean, number, string, array, object, item, no_items, Members, member, no_members, unsigned}
use Rattle.wh_markers.specs.Forms.{documented}
use Rattle.wh_markers.specs.Markers.{marker_of, marker_named, other_marker}
use Rattle.wh_markers.specs.Scalars.{detail_value, held_value}
use Rattle.wh_markers.specs.declared.forms.MarkerKind.{MarkerKind}
use Rattle.wh_markers.specs.declared.forms.MarkerKind.TheVariants.{LocalActivity, SideEffect, MutableSideEffect, Version, Patch}
use Rattle.wh_markers.specs.declared.markers.RecordedMarker.{RecordedMarker}

-- a detail with one value in shorthand, before others
abbrev pub detail : List ℕ → Data → Members → Members
detail key value others = member key (array (item value no_items)) others

-- the attributes of a marker with these details
abbrev pub attributes : List ℕ → Members → Option Data
attributes name details =
    Some (object (member (codes "markerName") (string name) (member (codes "details") (object details) no_members)))

-- a marker that records something of the kind, with the name and the number
abbrev pub recorded : MarkerKind → List ℕ → Option ℤ → RecordedMarker
recorded kind name count = record { kind = kind; name = name; number = count; deprecated = false }

-- what each SDK records is read from it, whatever its name: version 2 of a change, side effects, attempt 3 of a local
-- activity, and patches
pub record AreRead : Type 0 where
  pub go_version : (change : List ℕ) → marker_of (attributes (codes "Version")
      (detail (codes "change-id") (string change) (detail (codes "version") (number (unsigned 2)) no_members)))
      ≡ recorded Version change (Some (pos 2))
  pub java_version : (change : List ℕ) → marker_of (attributes (codes "Version")
      (detail (codes "changeId") (string change) (detail (codes "version") (number (unsigned 2)) no_members)))
      ≡ recorded Version change (Some (pos 2))
  pub go_side_effect : (value : Data) → marker_of (attributes (codes "SideEffect")
      (detail (codes "data") value (detail (codes "side-effect-id") (number (unsigned 7)) no_members)))
      ≡ recorded SideEffect (decimal 7) None
  pub java_side_effect : (value : Data) → marker_of (attributes (codes "SideEffect")
      (detail (codes "data") value no_members))
      ≡ recorded SideEffect [] None
  pub go_mutable_side_effect : (id : List ℕ) (value : Data) → marker_of (attributes (codes "MutableSideEffect")
      (detail (codes "data") value (detail (codes "side-effect-id") (string id) no_members)))
      ≡ recorded MutableSideEffect id None
  pub java_mutable_side_effect : (id : List ℕ) (value : Data) → marker_of (attributes (codes "MutableSideEffect")
      (detail (codes "data") value (detail (codes "id") (string id) no_members)))
      ≡ recorded MutableSideEffect id None
  pub go_local_activity : (type : List ℕ) (result : Data) → marker_of (attributes (codes "LocalActivity")
      (detail (codes "data") (object (member (codes "ActivityType") (string type)
      (member (codes "Attempt") (number (unsigned 3)) no_members))) (detail (codes "result") result no_members)))
      ≡ recorded LocalActivity type (Some (pos 3))
  pub java_local_activity : (type : List ℕ) (result : Data) → marker_of (attributes (codes "LocalActivity")
      (detail (codes "data") result (detail (codes "meta") (object (member (codes "atpt") (number (unsigned 3)) no_members))
      (detail (codes "type") (string type) no_members))))
      ≡ recorded LocalActivity type (Some (pos 3))
  pub core_local_activity : (type : List ℕ) (result : Data) → marker_of (attributes (codes "core_local_activity")
      (detail (codes "data") (object (member (codes "activity_type") (string type)
      (member (codes "attempt") (number (unsigned 3)) no_members))) (detail (codes "result") result no_members)))
      ≡ recorded LocalActivity type (Some (pos 3))
  pub patch : (id : List ℕ) (deprecated : Bool) → marker_of (attributes (codes "core_patch")
      (detail (codes "patch-data") (object (member (codes "deprecated") (boolean deprecated)
      (member (codes "id") (string id) no_members))) no_members))
      ≡ record { kind = Patch; name = id; number = None; deprecated = deprecated }

-- a marker with another name is of none of the forms, whatever its details are
abbrev pub OthersAreOther : Type 0
OthersAreOther = (name : List ℕ) (details : Option Data)
    → list_any (λ form. bytes_eq form.marker name) documented ≡ false → marker_named name details ≡ other_marker

-- a payload and the value in shorthand that stands for it say the same
abbrev pub ShorthandSaysTheSame : Type 0
ShorthandSaysTheSame = (payload d : Data) → held_value payload ≡ Some d
    → detail_value (object (member (codes "payloads") (array (item payload no_items)) no_members))
    ≡ detail_value (array (item d no_items))
