-- Configurations that were found show what the definitions do.
use Rattle.std.proofs.Common.{◌≡◌, ℕ, zero, suc, ◌<◌, Bool, true, false, List, [], ◌∷◌, length, get_or, map, refl, arith}
use Rattle.wh_possible_runs.specs.declared.thing.ThingState.{ThingState}
use Rattle.wh_possible_runs.specs.Configurations.{Config}
use Rattle.wh_possible_runs.specs.Shown.{same_thing_state, same_things, same_config, has}
use Rattle.wh_stuck_check.specs.declared.config.Configuration.{Configuration as ConfigHeld}
use Rattle.wh_stuck_check.specs.Private.Configs.{config_seen}

none_below : (i : ℕ) → i < 0 → ⊥
none_below i below = omega (arith, below)

first_has : (t u : Bool) → t ≡ true → ◌≡◌ {A = Bool} (elim t [ true ↦ true | false ↦ u ]) true
first_has true u is = refl
first_has false u is = cc

later_has : (t u : Bool) → u ≡ true → ◌≡◌ {A = Bool} (elim t [ true ↦ true | false ↦ u ]) true
later_has true u is = refl
later_has false u is = is

-- a configuration that is that at a place is one of them
pub has_at : (configs : List ConfigHeld) (i : ℕ) (other : ConfigHeld) (one : Config) → i < length configs
    → same_config one (config_seen (get_or configs i other)) ≡ true → has (map config_seen configs) one ≡ true
has_at [] i other one within is = absurd (none_below i within)
has_at (first ∷ rest) zero other one within is =
    first_has (same_config one (config_seen first)) (has (map config_seen rest) one) is
has_at (first ∷ rest) (suc i) other one within is =
    later_has (same_config one (config_seen first)) (has (map config_seen rest) one)
    (has_at rest i other one (omega (arith, within)) is)

-- lists of different lengths are not the same
pub same_length : (one other : List ThingState) → (length one ≡ length other → ⊥) → same_things one other ≡ false
same_length [] [] differ = absurd (differ refl)
same_length [] (that ∷ other) differ = refl
same_length (state ∷ one) [] differ = refl
same_length (state ∷ one) (that ∷ other) differ =
    by (same_thing_state state that) (same_length one other (λ is. differ (grind (arith, is))))
  where
    by : (t : Bool) → same_things one other ≡ false
        → ◌≡◌ {A = Bool} (elim t [ true ↦ same_things one other | false ↦ false ]) false
    by true later = later
    by false later = refl
