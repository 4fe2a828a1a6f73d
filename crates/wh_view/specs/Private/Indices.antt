-- What the table of indices beside the list of things holds.
use Rattle.std.specs.Prelude.{◌≡◌, ℕ, List, Option, Some, None, if◌then◌else◌}
use Rattle.wh_view.specs.declared.view.ViewedThing.{ViewedThing}
use Rattle.wh_view.specs.Things.{last_from, is_number}

-- under each number is the index of the last of the things that an event of that number opened
abbrev pub AreIndices : List ViewedThing → (ℕ → Option ℕ) → Type 0
AreIndices things index_of = (number : ℕ) → index_of number ≡ last_from number 0 things

-- the index, if the number is that of the thing
abbrev pub if_number : ℕ → Option ℕ → ℕ → Option ℕ
if_number number of index = if is_number number of then Some index else None
