-- No command follows one that asks for a version or closes the run.
use Rattle.std.proofs.Common.{◌≡◌, Bool, true, false, not, ◌&&◌, ◌||◌, List, [], ◌∷◌, refl, ap, ◌∙◌}
use Rattle.std.specs.Prelude.{if◌then◌else◌}
use Rattle.wh_rows.specs.Tables.{CommandTemplate}
use Rattle.wh_rows.specs.Rows.{closes}
use Rattle.wh_rows.specs.Rules.{asks, ends_well}
use Rattle.wh_row_rules.specs.Ends.{stops}

-- none of these follows one that stops, if the one before them stops or not
abbrev pub goes_well : Bool → List CommandTemplate → Bool
goes_well stopped [] = true
goes_well stopped (one ∷ rest) = if stopped then false else goes_well (stops one) rest

neither : (first second rest : Bool) → (if first || second then false else rest) ≡ (not first && (not second && rest))
neither true second rest = refl
neither false true rest = refl
neither false false rest = refl

pub goes_well_ends : (gives : List CommandTemplate) → goes_well false gives ≡ ends_well gives
goes_well_ends [] = refl
goes_well_ends (one ∷ []) = refl
goes_well_ends (one ∷ next ∷ rest) =
    neither (asks one) (closes one) (goes_well (stops next) rest)
    ∙ ap (λ more. not (asks one) && (not (closes one) && more)) (goes_well_ends (next ∷ rest))
