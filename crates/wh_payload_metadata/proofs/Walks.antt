-- The walks through a value, beside the definitions that they follow.
use Rattle.std.proofs.Common.{◌≡◌, ◌<◌, ◌≤◌, ℕ, zero, suc, List, [], ◌∷◌, ◌++◌, get_or, length, map, arith, Option, String, Vec, BTreeMap, Global, Less, Greater, string_bytes, string_cmp, nat_cmp, refl, sym, ap, ◌∙◌, append_assoc}
use Rattle.std.proofs.lemmas.Cmp.{nat_list_cmp_total}
use Rattle.std.specs.Cmp.Lexicographic.{slice_cmp}
use Rattle.std.specs.List.{AllByRecursion}
use Rattle.std.specs.List.Sorted.{IsStrictlySortedBy}
use Rattle.std.specs.Map.{keys_of}
use Rattle.std.specs.Ordering.{ordering_reverse}
use Rattle.serde_json.specs.Data.{Data, Members, item, member, put, depth, items_depth, members_depth}
use Rattle.serde_json.specs.View.{view, items_of, items_view, members_view}
use Rattle.serde_json.proofs.Views.{Entry, view-Array, view-Object}
use Rattle.serde_json.specs.declared.value.Value.{Value, Array, Object}
use Rattle.wh_json.specs.Fields.{list_of}
use Rattle.wh_payload_metadata.specs.Payloads.{payloads_of_members, payloads_of_member}
use Rattle.wh_payload_metadata.specs.Header.{members_by}
use Rattle.wh_payload_metadata.specs.Seen.{AreNotedFirst, noted, all_noted}
use Rattle.wh_payload_metadata.specs.Handed.{with_metadata, each_with_metadata, handed_on, items_handed_on, members_handed_on, member_handed_on}

pub all_noted-append : (ps qs : List Data) (seen : Members) → all_noted (ps ++ qs) seen ≡ all_noted qs (all_noted ps seen)
all_noted-append [] qs seen = refl
all_noted-append (p ∷ ps) qs seen = all_noted-append ps qs (noted p seen)

-- where a walk stands: the payloads that it has noted, and those that are left
abbrev pub AreNoted : (payloads left : List Data) (old now : Members) → Type 0
AreNoted payloads left old now = (first : List Data) × (payloads ≡ first ++ left) × (now ≡ all_noted first old)

pub noted_more : (payloads next after : List Data) (old now new : Members) → AreNoted payloads (next ++ after) old now
    → new ≡ all_noted next now → AreNoted payloads after old new
noted_more payloads next after old now new before is = (
  before.0 ++ next,
  before.1 ∙ sym (append_assoc before.0 next after),
  is ∙ ap (all_noted next) before.2 ∙ sym (all_noted-append before.0 next old),
)

-- a walk that ends where it stands
pub noted_until : (payloads left : List Data) (old now new : Members) → AreNoted payloads left old now → new ≡ now → AreNotedFirst payloads old new
noted_until payloads left old now new before is = record { first = before.0; rest = left; are = before.1; noted = is ∙ before.2 }

-- a walk that ends within what comes next
pub noted_after : (payloads next after : List Data) (old now new : Members) → AreNoted payloads (next ++ after) old now
    → AreNotedFirst next now new → AreNotedFirst payloads old new
noted_after payloads next after old now new before some = record {
  first = before.0 ++ some.first;
  rest = some.rest ++ after;
  are = before.1 ∙ ap (λ ps. before.0 ++ (ps ++ after)) some.are ∙ ap (λ ps. before.0 ++ ps) (append_assoc some.first some.rest after)
      ∙ sym (append_assoc before.0 some.first (some.rest ++ after));
  noted = some.noted ∙ ap (all_noted some.first) before.2 ∙ sym (all_noted-append before.0 some.first old);
}

-- what follows a member that was noted
pub member_noted : (e : Entry) (rest : List Entry) (before after : Members) → after ≡ all_noted (payloads_of_member (string_bytes e.0) (view e.1)) before
    → all_noted (payloads_of_members (members_view rest)) after ≡ all_noted (payloads_of_members (members_view (e ∷ rest))) before
member_noted e rest before after is =
    ap (all_noted (payloads_of_members (members_view rest))) is
    ∙ sym (all_noted-append (payloads_of_member (string_bytes e.0) (view e.1)) (payloads_of_members (members_view rest)) before)

pub list_of-items_view : (vs : List Value) → list_of (items_view vs) ≡ map view vs
list_of-items_view [] = refl
list_of-items_view (v ∷ vs) = ap (λ ds. view v ∷ ds) (list_of-items_view vs)

pub each_with_metadata-items_view : (seen : Members) (vs : List Value)
    → each_with_metadata seen (items_view vs) ≡ items_of (map (λ v. with_metadata seen (view v)) vs)
each_with_metadata-items_view seen [] = refl
each_with_metadata-items_view seen (v ∷ vs) = ap (item (with_metadata seen (view v))) (each_with_metadata-items_view seen vs)

pub items_handed_on-items_view : (seen : Members) (header : Option Data) (vs : List Value)
    → items_handed_on seen header (items_view vs) ≡ items_of (map (λ v. handed_on seen header (view v)) vs)
items_handed_on-items_view seen header [] = refl
items_handed_on-items_view seen header (v ∷ vs) = ap (item (handed_on seen header (view v))) (items_handed_on-items_view seen header vs)

module _ {X : Type 0} (value : String Global × X → Data) where
  below_middle : (first : String Global × X) (es : List (String Global × X)) (e : String Global × X) (more : List (String Global × X))
      → AllByRecursion (λ y. string_cmp first.0 y ≡ Less) (keys_of (es ++ e ∷ more)) → string_cmp first.0 e.0 ≡ Less
  below_middle first [] e more h = h.0
  below_middle first (x ∷ es) e more h = below_middle first es e more h.1

  -- a member goes last, if its name is above those before it
  pub put_last_by : (done : List (String Global × X)) (e : String Global × X) (more : List (String Global × X))
      → IsStrictlySortedBy string_cmp (keys_of (done ++ e ∷ more)) → put (string_bytes e.0) (value e) (members_by value done) ≡ members_by value (done ++ e ∷ [])
  unfolding IsStrictlySortedBy
  put_last_by [] e more h = refl
  put_last_by (first ∷ done) e more h =
      let above : slice_cmp nat_cmp (string_bytes e.0) (string_bytes first.0) ≡ Greater =
      nat_list_cmp_total.antisymm (string_bytes e.0) (string_bytes first.0) ∙ ap ordering_reverse (below_middle first done e more h.0) in
      rw above (ap (member (string_bytes first.0) (value first)) (put_last_by done e more h.1))

members_handed_by : (seen : Members) (header : Option Data) (es : List Entry)
    → members_handed_on seen header (members_view es) ≡ members_by (λ e. member_handed_on seen header (string_bytes e.0) (view e.1)) es
members_handed_by seen header [] = refl
members_handed_by seen header (e ∷ es) = ap (member (string_bytes e.0) (member_handed_on seen header (string_bytes e.0) (view e.1))) (members_handed_by seen header es)

-- a member that is handed on goes last, if its name is above those before it
pub put_last_handed : (seen : Members) (header : Option Data) (done : List Entry) (e : Entry) (more : List Entry)
    → IsStrictlySortedBy string_cmp (keys_of (done ++ e ∷ more))
    → put (string_bytes e.0) (member_handed_on seen header (string_bytes e.0) (view e.1)) (members_handed_on seen header (members_view done))
    ≡ members_handed_on seen header (members_view (done ++ e ∷ []))
put_last_handed seen header done e more ordered =
    ap (put (string_bytes e.0) (member_handed_on seen header (string_bytes e.0) (view e.1))) (members_handed_by seen header done)
    ∙ put_last_by (λ e. member_handed_on seen header (string_bytes e.0) (view e.1)) done e more ordered
    ∙ sym (members_handed_by seen header (done ++ e ∷ []))

pub array_depth : (v : Value) (items : Vec Value Global) → v ≡ Array items → depth (view v) ≡ suc (items_depth (items_view items.items))
array_depth v items is = ap depth (ap view is ∙ view-Array items)

pub object_depth : (v : Value) (members : BTreeMap (String Global) Value) → v ≡ Object members → depth (view v) ≡ suc (members_depth (members_view members.entries))
object_depth v members is = ap depth (ap view is ∙ view-Object members)

pub depth-get_or : (vs : List Value) (i : ℕ) (d : Value) → i < length vs → depth (view (get_or vs i d)) ≤ items_depth (items_view vs)
depth-get_or [] i d h = absurd (omega arith)
depth-get_or (v ∷ vs) zero d h = omega arith
depth-get_or (v ∷ vs) (suc i) d h = omega (arith, depth-get_or vs i d (omega arith))

-- the item of a turn of a loop is no deeper than all items
pub item_depth : (items xs : List Value) (i : ℕ) (v : Value) → xs ≡ items → v ≡ get_or xs i v → i < length xs → depth (view v) ≤ items_depth (items_view items)
item_depth items xs i v whole is within =
    let here = ap (λ w. depth (view w)) is in
    let all = ap (λ ys. items_depth (items_view ys)) whole in
    omega (arith, here, all, depth-get_or xs i v within)

pub depth_within : (done : List Entry) (e : Entry) (more : List Entry) → depth (view e.1) ≤ members_depth (members_view (done ++ e ∷ more))
depth_within [] e more = omega arith
depth_within (first ∷ done) e more = omega (arith, depth_within done e more)
