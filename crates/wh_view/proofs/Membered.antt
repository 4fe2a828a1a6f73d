-- The members of an object become texts one by one.
use Rattle.std.proofs.Common.{◌≡◌, ℕ, List, [], ◌∷◌, ◌++◌, sym, ap, subst, ◌∙◌, append_assoc, append-nil, refl}
use Rattle.std.specs.Prelude.{string_bytes}
use Rattle.serde_json.specs.Data.{Members}
use Rattle.serde_json.specs.View.{view, members_view}
use Rattle.serde_json.proofs.Views.{Entry}
use Rattle.wh_view.specs.Details.{AreMembers, IsNamedText}

pub member_more : (es left : List Entry) (all : Members) (e : Entry) (name text : List ℕ) (texts grown rest : List (List ℕ))
    → es ≡ e ∷ left → name ≡ string_bytes e.0 → IsNamedText name (view e.1) text → grown ≡ texts ++ text ∷ []
    → ((more : List (List ℕ)) → AreMembers (members_view es) more → AreMembers all (texts ++ more))
    → AreMembers (members_view left) rest → AreMembers all (grown ++ rest)
member_more es left all e name text texts grown rest here named is more held are =
    let one : IsNamedText (string_bytes e.0) (view e.1) text = subst (λ n. IsNamedText n (view e.1) text) named is in
    let both : AreMembers (members_view (e ∷ left)) (text ∷ rest) = (one, are) in
    let joined : texts ++ (text ∷ rest) ≡ grown ++ rest = sym (ap (λ xs. xs ++ rest) more ∙ append_assoc texts (text ∷ []) rest) in
    subst (AreMembers all) joined (held (text ∷ rest) (subst (λ xs. AreMembers (members_view xs) (text ∷ rest)) (sym here) both))

pub members_end : (es : List Entry) (all : Members) (texts : List (List ℕ)) → es ≡ []
    → ((more : List (List ℕ)) → AreMembers (members_view es) more → AreMembers all (texts ++ more)) → AreMembers all texts
members_end es all texts none held =
    let last : AreMembers (members_view es) [] = subst (λ xs. AreMembers (members_view xs) []) (sym none) refl in
    subst (AreMembers all) (append-nil texts) (held [] last)
