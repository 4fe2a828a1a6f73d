-- The state of a thing by its name.
use Rattle.std.proofs.Common.{◌≡◌, ℕ, zero, suc, ◌+◌, ◌<◌, Bool, true, false, List, [], ◌∷◌, length, get_or, drop, map, refl, ap, sym, ◌∙◌, arith}
use Rattle.wh_events.specs.declared.place.Thing.{Thing}
use Rattle.wh_possible_runs.specs.declared.thing.ThingState.{ThingState}
use Rattle.wh_possible_runs.specs.Situations.{is_named}
use Rattle.wh_stuck_check.specs.declared.names.ThingName.{ThingName as NameHeld}
use Rattle.wh_stuck_check.specs.Faults.{state_of}
use Rattle.wh_stuck_check.specs.Private.Seen.{name_seen}

none_below : (i : ℕ) → i < 0 → ⊥
none_below i below = omega (arith, below)

plus_one : (n : ℕ) → n + 1 ≡ suc n
plus_one n = omega arith

module _ (thing : Thing) (id : List ℕ) where
  state_from : (names : List NameHeld) (things : List ThingState) (i : ℕ) (name : NameHeld) → i < length names → i < length things
      → is_named thing id (name_seen (get_or names i name)) ≡ false
      → state_of (map name_seen (drop i names)) thing id (drop i things)
      ≡ state_of (map name_seen (drop (suc i) names)) thing id (drop (suc i) things)
  state_from [] things i name named within is = absurd (none_below i named)
  state_from (n ∷ names) [] i name named within is = absurd (none_below i within)
  state_from (n ∷ names) (one ∷ things) zero name named within is = by (is_named thing id (name_seen n)) is
    where
      by : (t : Bool) → t ≡ false
          → ◌≡◌ {A = ThingState} (elim t [ true ↦ one | false ↦ state_of (map name_seen names) thing id things ])
          (state_of (map name_seen names) thing id things)
      by false is = refl
      by true is = cc
  state_from (n ∷ names) (one ∷ things) (suc i) name named within is =
      state_from names things i name (omega (arith, named)) (omega (arith, within)) is

  -- a name at a place that is not the thing's is passed over
  pub state_on : (names : List NameHeld) (things : List ThingState) (i : ℕ) (name : NameHeld) → i < length names → i < length things
      → is_named thing id (name_seen (get_or names i name)) ≡ false
      → state_of (map name_seen (drop (i + 1) names)) thing id (drop (i + 1) things)
      ≡ state_of (map name_seen (drop i names)) thing id (drop i things)
  state_on names things i name named within is =
      ap (λ n. state_of (map name_seen (drop n names)) thing id (drop n things)) (plus_one i)
      ∙ sym (state_from names things i name named within is)
