-- The front of a string of JSON is written when each of its first characters is.
use Rattle.std.proofs.Common.{◌≡◌, ◌∙◌, ℕ, List, sym, take, map, ap}
use Rattle.std.specs.List.{flat_map}
use Rattle.std.specs.Str.{chars}
use Rattle.wh_view_report.proofs.Fronts.{map_same}
use Rattle.wh_view_json.specs.Texts.{json_char, json_text}

-- the characters that were taken, each as it is shown
pub whole_json : (xs text : List ℕ) → map (λ x. x) xs ≡ take 1_000 (chars text) → flat_map json_char xs ≡ json_text text
unfolding json_text
whole_json xs text e = ap (flat_map json_char) (sym (map_same xs) ∙ e)
