-- The marks of phrases: a colon or a comma, with a space behind it.
use Rattle.std.specs.Prelude.{ℕ, List, [], ◌∷◌, take, drop, Option, Some, None, option_map, bytes_eq, if◌then◌else◌}

-- two parts, the first of them after this byte
abbrev pub onto_before : ℕ → Option (List ℕ × List ℕ) → Option (List ℕ × List ℕ)
onto_before byte sides = option_map (λ parts. (byte ∷ parts.0, parts.1)) sides

-- the text before the first such mark of two characters, and the text after it
abbrev pub at_mark : List ℕ → List ℕ → Option (List ℕ × List ℕ)
at_mark mark [] = None
at_mark mark (byte ∷ rest) =
    if bytes_eq (take 2 (byte ∷ rest)) mark then Some ([], drop 1 rest) else onto_before byte (at_mark mark rest)
