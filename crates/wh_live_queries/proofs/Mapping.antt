-- Results that are put one after another, in the order of their names.
use Rattle.std.proofs.Common.{◌≡◌, [], ◌∷◌, ◌++◌, List, Greater, Less, string_bytes, string_cmp, nat_cmp, refl, ap, ◌∙◌}
use Rattle.std.proofs.lemmas.Cmp.{nat_list_cmp_total}
use Rattle.std.specs.Cmp.Lexicographic.{slice_cmp}
use Rattle.std.specs.List.{AllByRecursion}
use Rattle.std.specs.List.Sorted.{IsStrictlySortedBy}
use Rattle.std.specs.Map.{keys_of}
use Rattle.std.specs.Ordering.{ordering_reverse}
use Rattle.serde_json.specs.Data.{Data, member, put}
use Rattle.serde_json.specs.View.{members_view, view}
use Rattle.serde_json.proofs.Views.{Entry}
use Rattle.wh_live_queries.specs.Results.{map_members}

below_middle : (first : Entry) (es : List Entry) (e : Entry) (more : List Entry)
    → AllByRecursion (λ y. string_cmp first.0 y ≡ Less) (keys_of (es ++ e ∷ more)) → string_cmp first.0 e.0 ≡ Less
below_middle first [] e more h = h.0
below_middle first (x ∷ es) e more h = below_middle first es e more h.1

-- what is put under a name that is above those before it goes last
pub put_last : (f : Data → Data) (done : List Entry) (e : Entry) (more : List Entry)
    → IsStrictlySortedBy string_cmp (keys_of (done ++ e ∷ more))
    → put (string_bytes e.0) (f (view e.1)) (map_members f (members_view done)) ≡ map_members f (members_view (done ++ e ∷ []))
unfolding IsStrictlySortedBy
put_last f [] e more h = refl
put_last f (first ∷ done) e more h =
    let above : slice_cmp nat_cmp (string_bytes e.0) (string_bytes first.0) ≡ Greater =
    nat_list_cmp_total.antisymm (string_bytes e.0) (string_bytes first.0) ∙ ap ordering_reverse (below_middle first done e more h.0) in
    rw above (ap (member (string_bytes first.0) (f (view first.1))) (put_last f done e more h.1))
