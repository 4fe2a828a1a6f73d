-- The tags of HTML.
use Rattle.std.specs.Prelude.{ℕ, ◌==◌, ◌||◌, not, Bool, false, if◌then◌else◌, List, [], ◌∷◌, ◌++◌}

-- whether a position is within a tag after one more byte
abbrev pub within_after : Bool → ℕ → Bool
within_after within b = if within then not (b == 62) else b == 60

-- the bytes of the tags, each from its `<` to its `>`
abbrev pub tags_from : Bool → List ℕ → List ℕ
tags_from within [] = []
tags_from within (b ∷ bs) = (if within || b == 60 then b ∷ [] else []) ++ tags_from (within_after within b) bs

-- the bytes of the tags of a text that begins outside of tags
abbrev pub tags : List ℕ → List ℕ
tags bs = tags_from false bs
