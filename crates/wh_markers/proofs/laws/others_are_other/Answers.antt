use Rattle.std.proofs.Common.{◌≡◌, ℕ, List, false, refl, ap, Option, Some, None, bytes_eq}
use Rattle.std.specs.List.{list_any}
use Rattle.serde_json.specs.Data.{Data}
use Rattle.wh_markers.specs.Forms.{documented, form_for}
use Rattle.wh_markers.specs.Markers.{marker_by, marker_named, other_marker}
use Rattle.wh_markers.proofs.Table.{none_named}
use Rattle.wh_markers.proofs.laws.others_are_other.Goals as goal

other : (name : List ℕ) (details : Option Data) → list_any (λ form. bytes_eq form.marker name) documented ≡ false
    → marker_named name details ≡ other_marker
unfolding form_for
other name None apart = refl
other name (Some details) apart = ap (marker_by details) (none_named documented name details apart)

pub returns : goal.returns
returns c = other
