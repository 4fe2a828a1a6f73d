-- The things as they may be when the next task begins, from the last one on.
use Rattle.std.proofs.Common.{◌≡◌, ℕ, zero, suc, ◌<◌, ◌≤◌, true, false, List, [], ◌∷◌, ◌++◌, length, get_or, drop, map, refl, ap, sym, subst, ◌∙◌, Option, Some, None, arith}
use Rattle.wh_possible_runs.specs.declared.thing.ThingState.{ThingState}
use Rattle.wh_possible_runs.specs.Things.{next_thing}
use Rattle.wh_possible_runs.specs.Situations.{ThingName}
use Rattle.wh_possible_runs.specs.Configurations.{put_before, all_next_things}
use Rattle.wh_stuck_check.specs.declared.names.ThingName.{ThingName as NameHeld}
use Rattle.wh_stuck_check.specs.Private.Seen.{name_seen}

none_below : (i : ℕ) → i < 0 → ⊥
none_below i below = omega (arith, below)

both_none : (x y : Option ThingState) → put_before x [] ++ put_before y [] ≡ []
both_none None None = refl
both_none None (Some _) = refl
both_none (Some _) None = refl
both_none (Some _) (Some _) = refl

-- the list of no things
one_list : (names : List ThingName) → all_next_things names [] ≡ [] ∷ []
one_list [] = refl
one_list (name ∷ names) = refl

-- more things than names can't be
pub too_many : (names : List NameHeld) (things : List ThingState) → length names < length things
    → all_next_things (map name_seen names) things ≡ []
too_many names [] more = absurd (none_below (length names) more)
too_many [] (one ∷ things) more = refl
too_many (name ∷ names) (one ∷ things) more =
    ap (λ lists. put_before (next_thing false name.thing one) lists ++ put_before (next_thing true name.thing one) lists)
    (too_many names things (omega (arith, more)))
    ∙ both_none (next_thing false name.thing one) (next_thing true name.thing one)

-- past the end there is one list
pub past_end : (names : List ThingName) (things : List ThingState) (i : ℕ) → length things ≤ i
    → all_next_things names (drop i things) ≡ [] ∷ []
past_end names [] zero past = one_list names
past_end names [] (suc i) past = one_list names
past_end names (one ∷ things) zero past = absurd (none_below 0 (omega (arith, past)))
past_end names (one ∷ things) (suc i) past = past_end names things i (omega (arith, past))

-- those of the things from a place on are those behind it, with the thing at the place
things_from : (names : List NameHeld) (things : List ThingState) (i : ℕ) (name : NameHeld) (one : ThingState)
    → i < length names → i < length things → all_next_things (map name_seen (drop i names)) (drop i things)
    ≡ put_before (next_thing false (get_or names i name).thing (get_or things i one))
    (all_next_things (map name_seen (drop (suc i) names)) (drop (suc i) things))
    ++ put_before (next_thing true (get_or names i name).thing (get_or things i one))
    (all_next_things (map name_seen (drop (suc i) names)) (drop (suc i) things))
things_from [] things i name one named within = absurd (none_below i named)
things_from (n ∷ names) [] i name one named within = absurd (none_below i within)
things_from (n ∷ names) (o ∷ things) zero name one named within = refl
things_from (n ∷ names) (o ∷ things) (suc i) name one named within =
    things_from names things i name one (omega (arith, named)) (omega (arith, within))

-- the same where the place behind it has this number
pub things_at : (names : List NameHeld) (things : List ThingState) (i j : ℕ) (name : NameHeld) (one : ThingState)
    → j ≡ suc i → i < length names → i < length things → all_next_things (map name_seen (drop i names)) (drop i things)
    ≡ put_before (next_thing false (get_or names i name).thing (get_or things i one))
    (all_next_things (map name_seen (drop j names)) (drop j things))
    ++ put_before (next_thing true (get_or names i name).thing (get_or things i one))
    (all_next_things (map name_seen (drop j names)) (drop j things))
things_at names things i j name one is named within =
    subst (λ k. all_next_things (map name_seen (drop i names)) (drop i things)
    ≡ put_before (next_thing false (get_or names i name).thing (get_or things i one))
    (all_next_things (map name_seen (drop k names)) (drop k things))
    ++ put_before (next_thing true (get_or names i name).thing (get_or things i one))
    (all_next_things (map name_seen (drop k names)) (drop k things))) (sym is) (things_from names things i name one named within)
