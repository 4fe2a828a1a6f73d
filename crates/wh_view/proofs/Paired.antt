-- Lists whose items are related one by one grow by one item each.
use Rattle.std.proofs.Common.{◌≡◌, ℕ, ◌+◌, ◌<◌, List, [], ◌∷◌, ◌++◌, length, get_or, take, refl, sym, ap, subst, ◌∙◌, arith}
use Rattle.std.specs.Prelude.{map}
use Rattle.std.proofs.lemmas.List.{map_more, length-take-le, length-map}
use Rattle.serde_json.specs.Data.{Data}
use Rattle.serde_json.specs.View.{view}
use Rattle.serde_json.specs.declared.value.Value.{Value}
use Rattle.wh_view.specs.Each.{Each, none, more}

module _ {A B : Type 0} {R : ℕ → A → B → Type 0} where
  pub each_push : (n : ℕ) (xs : List A) (ys : List B) (x : A) (y : B) → Each R n xs ys → R (n + length xs) x y
      → Each R n (xs ++ x ∷ []) (ys ++ y ∷ [])
  each_push n [] [] x y (none _) r =
      let same : n + length {A = A} [] ≡ n = omega arith in
      more n x y [] [] (subst (λ k. R k x y) same r) (none (n + 1))
  each_push n [] (b ∷ ys) x y h r = elim h [ ]
  each_push n (a ∷ xs) [] x y h r = elim h [ ]
  each_push n (a ∷ xs) (b ∷ ys) x y (more _ _ _ _ _ here rest) r =
      let same : n + length (a ∷ xs) ≡ n + 1 + length xs = omega arith in
      more n a b (xs ++ x ∷ []) (ys ++ y ∷ []) here
      (each_push (n + 1) xs ys x y rest (subst (λ k. R k x y) same r))

-- one more value that was read
pub each_more : {B : Type 0} {R : ℕ → Data → B → Type 0} (n i place : ℕ) (vs : List Value) (v : Value) (ys zs : List B) (y : B)
    → i < length vs → v ≡ get_or vs i v → zs ≡ ys ++ y ∷ [] → Each R n (map view (take i vs)) ys → place ≡ n + i → R place (view v) y
    → Each R n (map view (take (i + 1) vs)) zs
each_more {B} {R} n i place vs v ys zs y below is grown h at r =
    let taken : length (map view (take i vs)) ≡ i = length-map (take i vs) view ∙ length-take-le i vs (omega arith) in
    let there : R (n + length (map view (take i vs))) (view (get_or vs i v)) y =
    subst (λ k. R (n + k) (view (get_or vs i v)) y) (sym taken) (subst (λ w. R (n + i) (view w) y) is (subst (λ k. R k (view v) y) at r)) in
    let both = each_push n (map view (take i vs)) ys (view (get_or vs i v)) y h there in
    rw (map_more view vs i v below, grown) both
