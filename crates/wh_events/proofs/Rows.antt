-- The first row of a table whose test passes is the least one that applies.
use Rattle.std.proofs.Common.{◌≡◌, ℕ, suc, ◌+◌, ◌-◌, ◌≤◌, ◌⊎◌, Bool, true, false, List, [], ◌∷◌, Option, Some, None, map, refl, sym, ap, subst, ◌∙◌, inl, inr, arith, slice_get}
use Rattle.std.specs.Bool.{Decides}
use Rattle.std.proofs.Math.Nat.{eq-or-lt_of_le}
use Rattle.wh_events.specs.Machines.{or_else}
use Rattle.wh_events.specs.Places.{fault_if}
use Rattle.wh_events.specs.Rows.{IsLeast, IsLeastOrNone}

-- the first of the rows whose test passes
abbrev pub first_row : {F : Type 0} → List F → (F → Bool) → Option F
first_row [] t = None
first_row (f ∷ rest) t = or_else (fault_if (t f) f) (first_row rest t)

-- the numbers of these rows, from one on
abbrev pub numbers : {F : Type 0} → ℕ → List F → List ℕ
numbers n [] = []
numbers n (f ∷ rest) = n ∷ numbers (suc n) rest

module _ {F : Type 0} (row_of : F → ℕ) (t : F → Bool) where
  -- each fault from the number on stands in its row
  abbrev AreAll : ℕ → List F → Type 0
  AreAll n rows = (f : F) (k : ℕ) → row_of f ≡ n + k → slice_get rows k ≡ Some f

  -- what the rows from the number on tell
  abbrev Tells : ℕ → Option F → Type 0
  Tells n None = (f : F) → n ≤ row_of f → t f ≡ false
  Tells n (Some f) = (n ≤ row_of f) × (t f ≡ true) × ((g : F) → n ≤ row_of g → t g ≡ true → row_of f ≤ row_of g)

  at_or_above : (f g : F) (rest : List F) (n : ℕ) → AreAll n (f ∷ rest) → n ≤ row_of g → (f ≡ g) ⊎ (suc n ≤ row_of g)
  at_or_above f g rest n all above = elim (eq-or-lt_of_le above) [ inl here ↦ inl (let e = all g 0 (omega arith) in cc) | inr more ↦ inr (omega arith) ]

  tell : (f : F) (rest : List F) (n : ℕ) (found : Option F) (here : Bool) → row_of f ≡ n → AreAll n (f ∷ rest) → t f ≡ here → Tells (suc n) found → Tells n (or_else (fault_if here f) found)
  tell f rest n found true at all e h = (omega arith, e, λ g above passes. omega arith)
  tell f rest n None false at all e h = λ g above. elim (at_or_above f g rest n all above) [ inl same ↦ ap t (sym same) ∙ e | inr more ↦ h g more ]
  tell f rest n (Some other) false at all e h =
      (let a = h.0 in omega arith, h.1, λ g above passes. elim (at_or_above f g rest n all above) [ inl same ↦ (let q : true ≡ false = sym passes ∙ (ap t (sym same) ∙ e) in cc) | inr more ↦ h.2 g more passes ])

  first_tells : (rows : List F) (n : ℕ) → map row_of rows ≡ numbers n rows → AreAll n rows → Tells n (first_row rows t)
  first_tells [] n numbered all = λ f above. (let e = all f (row_of f - n) (omega arith) in cc)
  first_tells (f ∷ rest) n numbered all =
      let here : row_of f ≡ n = cc in
      let further : map row_of rest ≡ numbers (suc n) rest = cc in
      tell f rest n (first_row rest t) (t f) here all refl (first_tells rest (suc n) further (λ g k e. all g (suc k) (omega arith)))

  -- each row has its number, and each fault its row
  module _ (rows : List F) (numbered : map row_of rows ≡ numbers 1 rows) (stands : (f : F) → (k : ℕ) × (row_of f ≡ suc k) × (slice_get rows k ≡ Some f)) where
    stand : AreAll 1 rows
    stand f k e = let r = stands f in let a = r.1 in let same : r.0 ≡ k = omega arith in subst (λ (i : ℕ). slice_get rows i ≡ Some f) same r.2

    positive : (f : F) → 1 ≤ row_of f
    positive f = let a = (stands f).1 in omega arith

    same_row : (f g : F) → row_of f ≡ row_of g → f ≡ g
    same_row f g e = let r = stands g in let number = r.1 in let one = stand f r.0 (omega arith) in let other = r.2 in cc

    module _ (Applies : F → Type 0) (decides : (f : F) → Decides (t f) (Applies f)) where
      told : (found : Option F) → Tells 1 found → IsLeastOrNone row_of Applies found
      told None h = (
        (λ _ row a. let passes = (decides row).1 a in let fails = h row (positive row) in cc, λ _. refl),
        λ fault. (λ e. cc, λ l. let passes = (decides fault).1 l.applies in let fails = h fault (positive fault) in cc),
      )
      told (Some f) h =
          let applies = (decides f).0 h.1 in
          let least = λ (other : F) (a : Applies other). h.2 other (positive other) ((decides other).1 a) in (
            (λ e. cc, λ none. absurd (none f applies)),
            λ fault. (
              λ e. let same : f ≡ fault = cc in subst (IsLeast row_of Applies) same (record { applies = applies; least = least }),
              λ l. let a = l.least f applies in let b = least fault l.applies in ap Some (same_row f fault (omega arith)),
            ),
          )

      pub first_row_is_least : IsLeastOrNone row_of Applies (first_row rows t)
      first_row_is_least = told (first_row rows t) (first_tells rows 1 numbered stand)
