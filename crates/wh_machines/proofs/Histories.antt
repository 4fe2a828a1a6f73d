-- One more event at the end of a history.
use Rattle.std.proofs.Common.{◌≡◌, ℕ, ◌+◌, Bool, true, false, not, eqb, leb, eq-eqb, List, [], ◌∷◌, ◌++◌, length, Option, Some, None, cond, refl, sym, ap, ◌∙◌, append_assoc, append-nil, arith}
use Rattle.std.proofs.lemmas.Bool.Decides.{nat_tests}
use Rattle.wh_events.specs.declared.event.Event.{Event}
use Rattle.wh_events.specs.declared.place.PlaceFault.{PlaceFault}
use Rattle.wh_events.specs.declared.place.Thing.{Thing}
use Rattle.wh_events.specs.Kinds.{role_of}
use Rattle.wh_events.specs.Machines.{or_else, opens, last_named}
use Rattle.wh_events.specs.declared.place.PlaceFault.TheVariants.{TooManyEvents}
use Rattle.wh_events.specs.Places.{place_fault, role_fault, fault_after, at_place, is_over, is_first, same_test, is_start, fault_if, most_events}
use Rattle.wh_machines.proofs.Options.{or_else-none, or_else_assoc}

-- the number of an event that passes a test
abbrev pub number_if : Bool → Event → Option ℕ
number_if b event = cond b (Some event.number) None

pub last_named-push : (thing : Thing) (id : List ℕ) (events : List Event) (event : Event) → last_named (events ++ event ∷ []) thing id ≡ or_else (number_if (opens thing id event) event) (last_named events thing id)
last_named-push thing id [] event = sym (or_else-none (number_if (opens thing id event) event))
last_named-push thing id (first ∷ rest) event =
    ap (λ o. or_else o (number_if (opens thing id first) first)) (last_named-push thing id rest event)
    ∙ or_else_assoc (number_if (opens thing id event) event) (last_named rest thing id) (number_if (opens thing id first) first)

at_place_none : (place : ℕ) (o : Option PlaceFault) (later : Option (ℕ × PlaceFault)) → o ≡ None → later ≡ None → at_place place o later ≡ None
at_place_none place None later h k = k
at_place_none place (Some fault) later h k = cc

pub place_none : (place : ℕ) (o : Option PlaceFault) (later : Option (ℕ × PlaceFault)) → at_place place o later ≡ None → o ≡ None
place_none place None later h = refl
place_none place (Some fault) later h = cc

pub later_none : (place : ℕ) (o : Option PlaceFault) (later : Option (ℕ × PlaceFault)) → at_place place o later ≡ None → later ≡ None
later_none place None later h = h
later_none place (Some fault) later h = cc

-- an event that is in place after those in place
pub fault_after-push : (before events : List Event) (event : Event) → fault_after before events ≡ None → place_fault (before ++ events) event ≡ None → fault_after before (events ++ event ∷ []) ≡ None
fault_after-push before [] event h k = at_place_none _ _ _ (rw append-nil at k) refl
fault_after-push before (first ∷ rest) event h k =
    let here = place_none _ _ _ h in
    let later = later_none _ _ _ h in
    at_place_none _ _ _ here (fault_after-push (before ++ first ∷ []) rest event later (rw append_assoc k))

is_first-length : (events : List Event) → is_first events ≡ eqb (length events) 0
is_first-length [] = refl
is_first-length (event ∷ rest) = grind (arith, nat_tests)

same_test-same : (a b : Bool) → a ≡ b → same_test a b ≡ true
same_test-same true b h = sym h
same_test-same false b h = ap not (sym h)

-- what is left of the table where its first rows do not apply
pub later_fault : (before : List Event) (event : Event) → eqb (length before) 0 ≡ is_start event → event.number ≡ length before + 1 → is_over before ≡ false
    → place_fault before event ≡ or_else (role_fault before (role_of event.body)) (fault_if (leb most_events (length before)) TooManyEvents)
unfolding place_fault
later_fault before event first number over =
    let starts = same_test-same (is_first before) (is_start event) (is_first-length before ∙ first) in
    let numbered = eq-eqb event.number (length before + 1) number in
    rw (starts, numbered, over) refl
