-- The front of a text is written when each of its first characters is.
use Rattle.std.proofs.Common.{◌≡◌, ◌∙◌, ℕ, List, [], ◌∷◌, sym, take, map, refl, ap}
use Rattle.std.specs.List.{flat_map}
use Rattle.std.specs.Str.{chars}
use Rattle.wh_view_report.specs.Cut.{front, shown_bytes}

pub map_same : (xs : List ℕ) → map (λ x. x) xs ≡ xs
map_same [] = refl
map_same (x ∷ xs) = ap (λ ys. x ∷ ys) (map_same xs)

-- the characters that were taken, each as it is shown
pub whole : (xs text : List ℕ) → map (λ x. x) xs ≡ take 80 (chars text) → flat_map shown_bytes xs ≡ front text
unfolding front
whole xs text e = ap (flat_map shown_bytes) (sym (map_same xs) ∙ e)
