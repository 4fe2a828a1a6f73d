-- The things when the next task begins, one after another.
use Rattle.std.proofs.Common.{◌≡◌, ℕ, zero, suc, ◌+◌, ◌<◌, ◌≤◌, Bool, List, [], ◌∷◌, length, get_or, drop, map, refl, ap, sym, subst, Option, Some, None, arith}
use Rattle.wh_possible_runs.specs.declared.thing.ThingState.{ThingState}
use Rattle.wh_possible_runs.specs.Things.{next_thing}
use Rattle.wh_possible_runs.specs.Situations.{ThingName, keep_first, next_things}
use Rattle.wh_stuck_check.specs.declared.names.ThingName.{ThingName as NameHeld}
use Rattle.wh_stuck_check.specs.Private.Seen.{name_seen}

none_below : (i : ℕ) → i < 0 → ⊥
none_below i below = omega (arith, below)

plus_one : (n : ℕ) → n + 1 ≡ suc n
plus_one n = omega arith

-- no thing is left
pub no_things : (names : List ThingName) (ended : List Bool) → next_things names ended [] ≡ Some []
no_things [] ended = refl
no_things (name ∷ names) [] = refl
no_things (name ∷ names) (flag ∷ ended) = refl

-- past the end none is
pub past_things : (names : List ThingName) (ended : List Bool) (things : List ThingState) (i : ℕ) → length things ≤ i
    → next_things names ended (drop i things) ≡ Some []
past_things names ended [] zero past = no_things names ended
past_things names ended [] (suc i) past = no_things names ended
past_things names ended (one ∷ things) zero past = absurd (none_below 0 (omega (arith, past)))
past_things names ended (one ∷ things) (suc i) past = past_things names ended things i (omega (arith, past))

-- the things from a place on are the one at the place and those behind it
things_from : (names : List NameHeld) (ended : List Bool) (things : List ThingState) (i : ℕ) (name : NameHeld) (flag : Bool)
    (one state : ThingState) (rest : List ThingState) → i < length names → i < length ended → i < length things
    → next_thing (get_or ended i flag) (get_or names i name).thing (get_or things i one) ≡ Some state
    → next_things (map name_seen (drop (suc i) names)) (drop (suc i) ended) (drop (suc i) things) ≡ Some rest
    → next_things (map name_seen (drop i names)) (drop i ended) (drop i things) ≡ Some (state ∷ rest)
things_from [] ended things i name flag one state rest named flagged within is later = absurd (none_below i named)
things_from (n ∷ names) [] things i name flag one state rest named flagged within is later = absurd (none_below i flagged)
things_from (n ∷ names) (f ∷ ended) [] i name flag one state rest named flagged within is later = absurd (none_below i within)
things_from (n ∷ names) (f ∷ ended) (o ∷ things) zero name flag one state rest named flagged within is later =
    subst (λ (x : Option ThingState). ◌≡◌ {A = Option (List ThingState)} (elim x [
      | Some next ↦ keep_first next (next_things (map name_seen names) ended things)
      | None ↦ None
    ]) (Some (state ∷ rest))) (sym is) (ap (keep_first state) later)
things_from (n ∷ names) (f ∷ ended) (o ∷ things) (suc i) name flag one state rest named flagged within is later =
    things_from names ended things i name flag one state rest (omega (arith, named)) (omega (arith, flagged)) (omega (arith, within)) is later

pub things_on : (names : List NameHeld) (ended : List Bool) (things : List ThingState) (i : ℕ) (name : NameHeld) (flag : Bool)
    (one state : ThingState) (rest : List ThingState) → i < length names → i < length ended → i < length things
    → next_thing (get_or ended i flag) (get_or names i name).thing (get_or things i one) ≡ Some state
    → next_things (map name_seen (drop (i + 1) names)) (drop (i + 1) ended) (drop (i + 1) things) ≡ Some rest
    → next_things (map name_seen (drop i names)) (drop i ended) (drop i things) ≡ Some (state ∷ rest)
things_on names ended things i name flag one state rest named flagged within is later =
    things_from names ended things i name flag one state rest named flagged within is
    (subst (λ n. next_things (map name_seen (drop n names)) (drop n ended) (drop n things) ≡ Some rest) (plus_one i) later)
