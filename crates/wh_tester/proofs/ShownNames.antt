-- A name is shown when each of its first 255 characters is.
use Rattle.std.proofs.Common.{◌≡◌, ◌∙◌, ℕ, List, [], ◌∷◌, sym, take, map, refl, ap}
use Rattle.std.specs.List.{flat_map}
use Rattle.std.specs.Str.{chars}
use Rattle.wh_tester.specs.Report.{shown, shown_char}

map_same : (xs : List ℕ) → map (λ x. x) xs ≡ xs
map_same [] = refl
map_same (x ∷ xs) = ap (λ ys. x ∷ ys) (map_same xs)

-- the characters that were taken, each as it is shown
pub whole : (xs name : List ℕ) → map (λ x. x) xs ≡ take 255 (chars name) → flat_map shown_char xs ≡ shown name
unfolding shown
whole xs name e = ap (flat_map shown_char) (sym (map_same xs) ∙ e)
