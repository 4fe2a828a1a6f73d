-- A list joined from parts that depend on the places of members.
use Rattle.std.specs.Prelude.{ℕ, suc, List, [], ◌∷◌, ◌++◌}

module _ {A B : Type 0} where
  -- the parts one after another; the first member has this place
  abbrev pub numbered : (ℕ → A → List B) → ℕ → List A → List B
  numbered part place [] = []
  numbered part place (one ∷ rest) = part place one ++ numbered part (suc place) rest
