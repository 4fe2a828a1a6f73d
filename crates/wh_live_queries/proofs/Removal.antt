-- An entry that is removed from a map is a member that is left out.
use Rattle.std.proofs.Common.{◌≡◌, ℕ, List, [], ◌∷◌, Bool, true, false, cond, string_bytes, nat_cmp, is_eq, bytes_eq, refl, ap, ◌∙◌}
use Rattle.std.proofs.lemmas.Map.Text.{is_eq-slice_cmp}
use Rattle.std.specs.BTreeMap.{is_at}
use Rattle.std.specs.Cmp.Lexicographic.{slice_cmp}
use Rattle.std.specs.Map.{remove_entry}
use Rattle.serde_json.specs.Data.{Members, member}
use Rattle.serde_json.specs.View.{view, members_view}
use Rattle.serde_json.proofs.Views.{Entry}
use Rattle.wh_live_queries.specs.Waiting.{without}

removed_if : (b : Bool) (e : Entry) (rest left : List Entry) (ms : Members) → members_view left ≡ ms
    → members_view (cond b rest (e ∷ left)) ≡ cond b (members_view rest) (member (string_bytes e.0) (view e.1) ms)
removed_if true e rest left ms same = refl
removed_if false e rest left ms same = ap (member (string_bytes e.0) (view e.1)) same

pub removed : (name : List ℕ) (es : List Entry)
    → members_view (remove_entry (is_at (λ k. slice_cmp nat_cmp name (string_bytes k))) es) ≡ without name (members_view es)
removed name [] = refl
removed name (e ∷ es) =
    let left = remove_entry (is_at (λ k. slice_cmp nat_cmp name (string_bytes k))) es in
    removed_if (is_eq (slice_cmp nat_cmp name (string_bytes e.0))) e es left (without name (members_view es)) (removed name es)
    ∙ ap (λ b. cond b (members_view es) (member (string_bytes e.0) (view e.1) (without name (members_view es))))
    (is_eq-slice_cmp name (string_bytes e.0))
