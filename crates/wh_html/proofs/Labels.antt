-- The room for a type and an id in a label.
use Rattle.std.proofs.Common.{◌≡◌, ◌+◌, ◌-◌, ◌≤◌, ℕ, Bool, true, false, cond, min, refl, arith}
use Rattle.std.proofs.lemmas.Bool.{leb-true, leb-false}
use Rattle.std.specs.Prelude.{nat_le}
use Rattle.wh_html.specs.Lanes.{id_room, type_room}
use Rattle.wh_html.specs.PictureLaws.{LabelsFit, ShortIdsAreWhole}

few : (name id room : ℕ) → room ≤ 27 → min name room + min id (27 - min name room) ≤ 27
few name id room h = omega arith

room_is_few : (id : ℕ) → type_room id ≤ 27
room_is_few id = by (nat_le id 14)
  where
    by : (t : Bool) → cond t (27 - id) 20 ≤ 27
    by true = omega arith
    by false = omega arith

pub labels_fit : LabelsFit
labels_fit name id = few name id (type_room id) (room_is_few id)

pub short_ids_are_whole : ShortIdsAreWhole
short_ids_are_whole name id short = by (nat_le id 14) refl
  where
    by : (t : Bool) → nat_le id 14 ≡ t → id ≤ 27 - min name (cond t (27 - id) 20)
    by true e = omega (arith, short)
    by false e = let long = leb-false id 14 e in absurd (omega (arith, short, long))
