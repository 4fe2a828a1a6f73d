-- Where an item that passes stands, one that passes is among those that are taken.
use Rattle.std.proofs.Common.{◌≡◌, ◌≤◌, ◌<◌, ℕ, suc, zero, ◌+◌, ◌-◌, Bool, true, false, cond, List, [], ◌∷◌, length, take, drop, min, refl, sym, ap, ◌∙◌, Option, Some, None, arith}
use Rattle.std.specs.Prelude.{nat_lt, not, ◌||◌, unwrap_or}
use Rattle.std.specs.List.{list_any, position, position_or_len}
use Rattle.std.proofs.lemmas.Bool.{lt-ltb}
use Rattle.std.proofs.lemmas.List.{length-take, length-drop, take_all}

module _ {A : Type 0} where
  -- one of the items of a list that begins with an item passes
  by-head : (p : A → Bool) (x : A) (xs : List A) (b : Bool) → p x ≡ b → (left most : ℕ) → list_any p (x ∷ xs) ≡ true
      → left ≤ position_or_len p (x ∷ xs) → position_or_len p (x ∷ xs) < left + most
      → ((l m : ℕ) → list_any p xs ≡ true → l ≤ position_or_len p xs → position_or_len p xs < l + m → list_any p (take m (drop l xs)) ≡ true)
      → list_any p (take most (drop left (x ∷ xs))) ≡ true
  by-head p x xs true e zero zero h low high rest =
      let at : position_or_len p (x ∷ xs) ≡ 0 = ap (λ b. cond (not b) (1 + position_or_len p xs) 0) e in absurd (omega arith)
  by-head p x xs true e zero (suc m) h low high rest = ap (λ b. b || list_any p (take m xs)) e
  by-head p x xs true e (suc l) most h low high rest =
      let at : position_or_len p (x ∷ xs) ≡ 0 = ap (λ b. cond (not b) (1 + position_or_len p xs) 0) e in absurd (omega arith)
  by-head p x xs false e zero zero h low high rest =
      let at : position_or_len p (x ∷ xs) ≡ 1 + position_or_len p xs = ap (λ b. cond (not b) (1 + position_or_len p xs) 0) e in absurd (omega arith)
  by-head p x xs false e zero (suc m) h low high rest =
      let at : position_or_len p (x ∷ xs) ≡ 1 + position_or_len p xs = ap (λ b. cond (not b) (1 + position_or_len p xs) 0) e in
      ap (λ b. b || list_any p (take m xs)) e ∙ rest 0 m (sym (ap (λ b. b || list_any p xs) e) ∙ h) (omega arith) (omega arith)
  by-head p x xs false e (suc l) most h low high rest =
      let at : position_or_len p (x ∷ xs) ≡ 1 + position_or_len p xs = ap (λ b. cond (not b) (1 + position_or_len p xs) 0) e in
      rest l most (sym (ap (λ b. b || list_any p xs) e) ∙ h) (omega arith) (omega arith)

  -- where the first item that passes is among those that are taken, one of these passes
  pub any-taken : (p : A → Bool) (xs : List A) (left most : ℕ) → list_any p xs ≡ true → left ≤ position_or_len p xs
      → position_or_len p xs < left + most → list_any p (take most (drop left xs)) ≡ true
  any-taken p [] left most h low high = cc
  any-taken p (x ∷ xs) left most h low high = by-head p x xs (p x) refl left most h low high (λ l m. any-taken p xs l m)

  below-by : (p : A → Bool) (x : A) (xs : List A) (b : Bool) → p x ≡ b → list_any p (x ∷ xs) ≡ true
      → (list_any p xs ≡ true → position_or_len p xs < length xs) → position_or_len p (x ∷ xs) < length (x ∷ xs)
  below-by p x xs true e h rest =
      let at : position_or_len p (x ∷ xs) ≡ 0 = ap (λ b. cond (not b) (1 + position_or_len p xs) 0) e in omega arith
  below-by p x xs false e h rest =
      let at : position_or_len p (x ∷ xs) ≡ 1 + position_or_len p xs = ap (λ b. cond (not b) (1 + position_or_len p xs) 0) e in
      let below = rest (sym (ap (λ b. b || list_any p xs) e) ∙ h) in
      omega arith

  -- the first item that passes is one of the list
  pub any-below : (p : A → Bool) (xs : List A) → list_any p xs ≡ true → position_or_len p xs < length xs
  any-below p [] h = cc
  any-below p (x ∷ xs) h = below-by p x xs (p x) refl h (any-below p xs)

  pub position-any : (p : A → Bool) (xs : List A) (other : ℕ) → list_any p xs ≡ true → unwrap_or (position p xs) other ≡ position_or_len p xs
  position-any p xs other h =
      ap (λ b. unwrap_or (cond b (Some (position_or_len p xs)) None) other) (lt-ltb (position_or_len p xs) (length xs) (any-below p xs h))
