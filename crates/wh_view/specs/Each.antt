-- A relation between the items of two lists, one by one.
use Rattle.std.specs.Prelude.{ℕ, ◌+◌, List, [], ◌∷◌}

-- the lists have the same length, and the relation holds of the items at each place; places count up from the number
pub data Each {A B : Type 0} (R : ℕ → A → B → Type 0) : ℕ → List A → List B → Type 0 where
  none : (n : ℕ) → Each R n [] []
  more : (n : ℕ) (x : A) (y : B) (xs : List A) (ys : List B) → R n x y → Each R (n + 1) xs ys
      → Each R n (x ∷ xs) (y ∷ ys)
