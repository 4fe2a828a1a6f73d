-- The things once one of them changes, by the place of its name.
use Rattle.std.proofs.Common.{◌≡◌, ℕ, zero, suc, ◌<◌, ◌≤◌, Bool, true, false, List, [], ◌∷◌, length, get_or, set, refl, ap, Option, Some, None, arith}
use Rattle.wh_events.specs.declared.place.Thing.{Thing}
use Rattle.wh_possible_runs.specs.declared.thing.ThingState.{ThingState}
use Rattle.wh_possible_runs.specs.Situations.{ThingName, is_named, keep_first, change_first, with_change}
use Rattle.wh_stuck_check.specs.Private.Seen.{place_named}

none_below : (i : ℕ) → i < 0 → ⊥
none_below i below = omega (arith, below)

none_within : (n : ℕ) → suc n ≤ 0 → ⊥
none_within n within = omega (arith, within)

module _ (change : ThingState → Option ThingState) where
  -- the things once that at a place changes
  abbrev pub at_place : List ThingState → ℕ → Option (List ThingState)
  at_place [] i = None
  at_place (one ∷ rest) zero = change_first (change one) rest
  at_place (one ∷ rest) (suc i) = keep_first one (at_place rest i)

  -- it is that whose name stands at the place
  pub named_at : (thing : Thing) (id : List ℕ) (names : List ThingName) (now : List ThingState)
      → place_named thing id names < length names → with_change change names thing id now ≡ at_place now (place_named thing id names)
  named_at thing id [] now within = absurd (none_below _ within)
  named_at thing id (name ∷ names) [] within = refl
  named_at thing id (name ∷ names) (one ∷ rest) within = by (named_at thing id names rest) (is_named thing id name) within
    where
      by : (place_named thing id names < length names → with_change change names thing id rest ≡ at_place rest (place_named thing id names))
          → (t : Bool) → elim t [ true ↦ 0 | false ↦ suc (place_named thing id names) ] < length (name ∷ names)
          → elim t [ true ↦ change_first (change one) rest | false ↦ keep_first one (with_change change names thing id rest) ]
          ≡ at_place (one ∷ rest) (elim t [ true ↦ 0 | false ↦ suc (place_named thing id names) ])
      by later true within = refl
      by later false within = ap (keep_first one) (later (omega (arith, within)))

  -- none changes if there is no such name
  pub named_nowhere : (thing : Thing) (id : List ℕ) (names : List ThingName) (now : List ThingState)
      → length names ≤ place_named thing id names → with_change change names thing id now ≡ None
  named_nowhere thing id [] now past = refl
  named_nowhere thing id (name ∷ names) [] past = refl
  named_nowhere thing id (name ∷ names) (one ∷ rest) past = by (named_nowhere thing id names rest) (is_named thing id name) past
    where
      by : (length names ≤ place_named thing id names → with_change change names thing id rest ≡ None) → (t : Bool) → length (name ∷ names) ≤ elim t [ true ↦ 0 | false ↦ suc (place_named thing id names) ]
          → ◌≡◌ {A = Option (List ThingState)}
          (elim t [ true ↦ change_first (change one) rest | false ↦ keep_first one (with_change change names thing id rest) ]) None
      by later true past = absurd (none_within _ past)
      by later false past = ap (keep_first one) (later (omega (arith, past)))

  -- the one at the place is set
  pub set_place : (now : List ThingState) (i : ℕ) (other state : ThingState) → i < length now
      → change (get_or now i other) ≡ Some state → at_place now i ≡ Some (set now i state)
  set_place [] i other state within is = absurd (none_below _ within)
  set_place (one ∷ rest) zero other state within is = ap (λ x. change_first x rest) is
  set_place (one ∷ rest) (suc i) other state within is = ap (keep_first one) (set_place rest i other state (omega (arith, within)) is)

  -- it can't change
  pub keeps_place : (now : List ThingState) (i : ℕ) (other : ThingState) → i < length now
      → change (get_or now i other) ≡ None → at_place now i ≡ None
  keeps_place [] i other within is = refl
  keeps_place (one ∷ rest) zero other within is = ap (λ x. change_first x rest) is
  keeps_place (one ∷ rest) (suc i) other within is = ap (keep_first one) (keeps_place rest i other (omega (arith, within)) is)

  -- there is none at the place
  pub past_place : (now : List ThingState) (i : ℕ) → length now ≤ i → at_place now i ≡ None
  past_place [] i past = refl
  past_place (one ∷ rest) zero past = absurd (none_within _ past)
  past_place (one ∷ rest) (suc i) past = ap (keep_first one) (past_place rest i (omega (arith, past)))
