-- When two keys of runs are the same.
use Rattle.std.specs.Prelude.{◌≡◌, ℕ, Bool, true, false, ◌&&◌, List, [], ◌∷◌, nat_eq, refl}
use Rattle.std.specs.Cmp.{IsEquivalence}
use Rattle.std.specs.Cmp.Lexicographic.{pointwise, nat_list_eq_equiv}
use Rattle.std.proofs.Common.{ap, ◌∙◌}
use Rattle.std.proofs.lemmas.Bool.{eqb-true, eq-eqb}
use Rattle.wh_events.specs.declared.key.RunKey.{RunKey}

-- the texts have the same bytes
abbrev pub same_text : List ℕ → List ℕ → Bool
same_text a b = pointwise nat_eq a b

-- the keys have the same workflow id and the same run id
abbrev pub same_key : RunKey → RunKey → Bool
same_key a b = same_text a.workflow_id b.workflow_id && same_text a.run_id b.run_id

both : (a b : Bool) → (a && b) ≡ true → (a ≡ true) × (b ≡ true)
both true b e = (refl, e)
both false b e = cc

both_hold : (a b : Bool) → a ≡ true → b ≡ true → (a && b) ≡ true
both_hold a b p q = ap (λ x. x && b) p ∙ q

-- texts that are the same are equal
pub same_text-true : (a b : List ℕ) → same_text a b ≡ true → a ≡ b
same_text-true [] [] e = refl
same_text-true [] (y ∷ ys) e = cc
same_text-true (x ∷ xs) [] e = cc
same_text-true (x ∷ xs) (y ∷ ys) e =
    let h = both (nat_eq x y) (same_text xs ys) e in
    let head : x ≡ y = eqb-true x y h.0 in
    let tail : xs ≡ ys = same_text-true xs ys h.1 in cc

-- each text is the same as itself
pub same_text-refl : (a : List ℕ) → same_text a a ≡ true
same_text-refl [] = refl
same_text-refl (x ∷ xs) = both_hold (nat_eq x x) (same_text xs xs) (eq-eqb x x refl) (same_text-refl xs)

-- keys that are the same are equal
pub same_key-true : (a b : RunKey) → same_key a b ≡ true → a ≡ b
same_key-true a b e =
    let h = both (same_text a.workflow_id b.workflow_id) (same_text a.run_id b.run_id) e in
    let one = same_text-true a.workflow_id b.workflow_id h.0 in
    let two = same_text-true a.run_id b.run_id h.1 in λ i. record { workflow_id = one i; run_id = two i }

-- each key is the same as itself
pub same_key-refl : (a : RunKey) → same_key a a ≡ true
same_key-refl a =
    both_hold (same_text a.workflow_id a.workflow_id) (same_text a.run_id a.run_id) (same_text-refl a.workflow_id)
    (same_text-refl a.run_id)

-- being the same is an equivalence
pub same_key-equiv : IsEquivalence same_key
same_key-equiv =
    record {
      refl = same_key-refl;
      symm = λ x y i. nat_list_eq_equiv.symm x.workflow_id y.workflow_id i
          && nat_list_eq_equiv.symm x.run_id y.run_id i;
      congr = λ x y z e. ap (λ k. same_key k z) (same_key-true x y e);
    }
