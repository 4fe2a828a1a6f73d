-- A value of a label is written once each of its characters is.
use Rattle.std.proofs.Common.{◌≡◌, ◌∙◌, ℕ, List, [], ◌∷◌, map, sym, refl, ap}
use Rattle.std.specs.List.{flat_map}
use Rattle.std.specs.Str.{chars}
use Rattle.wh_metrics.specs.Labels.{escaped, escaped_char}

same : (xs : List ℕ) → map (λ x. x) xs ≡ xs
same [] = refl
same (x ∷ xs) = ap (λ ys. x ∷ ys) (same xs)

pub whole : (xs text : List ℕ) → map (λ x. x) xs ≡ chars text → flat_map escaped_char xs ≡ escaped text
unfolding escaped
whole xs text e = ap (flat_map escaped_char) (sym (same xs) ∙ e)
