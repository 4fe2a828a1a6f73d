-- A failure and its causes are viewed one by one.
use Rattle.std.proofs.Common.{◌≡◌, ℕ, zero, suc, ◌+◌, ◌-◌, ◌<◌, ◌≤◌, List, [], ◌∷◌, ◌++◌, codes, refl, sym, ap, ◌∙◌, arith, append_assoc, append-nil, Option, Some, None}
use Rattle.serde_json.specs.Data.{Data}
use Rattle.wh_json.specs.Fields.{field}
use Rattle.wh_view.specs.declared.view.ViewedFailure.{ViewedFailure}
use Rattle.wh_view.specs.Failures.{failures_from, failure_at}

one_more : (left rest : ℕ) (d : Data) → left ≡ suc rest
    → failures_from left (Some d) ≡ failure_at d ∷ failures_from rest (field (codes "cause") (Some d))
unfolding failures_from
one_more left rest d is = ap (λ n. failures_from n (Some d)) is

pub failure_more : (i : ℕ) (d : Data) (cause : Option Data) (one : ViewedFailure) (before grown : List ViewedFailure) → i < 16
    → grown ≡ before ++ one ∷ [] → one ≡ failure_at d → cause ≡ field (codes "cause") (Some d)
    → grown ++ failures_from (16 - (i + 1)) cause ≡ before ++ failures_from (16 - i) (Some d)
failure_more i d cause one before grown below more is next =
    let left : 16 - i ≡ suc (16 - (i + 1)) = omega arith in
    let rest = failures_from (16 - (i + 1)) in
    ap (λ xs. xs ++ rest cause) more ∙ append_assoc before (one ∷ []) (rest cause)
    ∙ ap (λ f. before ++ f ∷ rest cause) is ∙ ap (λ o. before ++ failure_at d ∷ rest o) next
    ∙ ap (λ xs. before ++ xs) (sym (one_more (16 - i) (16 - (i + 1)) d left))

pub failures_none : (left : ℕ) → failures_from left None ≡ []
unfolding failures_from
failures_none zero = refl
failures_none (suc left) = refl

pub failures_end : (i : ℕ) (failure : Option Data) → 16 ≤ i → failures_from (16 - i) failure ≡ []
unfolding failures_from
failures_end i failure past =
    let none : 16 - i ≡ 0 = omega arith in
    ap (λ n. failures_from n failure) none
