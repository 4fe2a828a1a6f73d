-- What follows from an event being in place after others.
use Rattle.std.proofs.Common.{◌≡◌, ℕ, ◌+◌, ◌<◌, Bool, true, false, not, zero, suc, List, [], ◌∷◌, ◌++◌, length, take, get_or, None, is_none, eqb, ltb, ◌||◌, refl, append-nil, append_assoc, arith}
use Rattle.std.proofs.lemmas.Bool.{eqb-true}
use Rattle.std.proofs.lemmas.List.{length_push}
use Rattle.wh_events.specs.declared.event.Event.{Event}
use Rattle.wh_events.specs.declared.place.Thing.{Thing}
use Rattle.wh_events.specs.declared.place.Thing.TheVariants.{Child}
use Rattle.wh_events.specs.Kinds.{role_of}
use Rattle.wh_events.specs.Kinds.Role.{Opens, CancelsChild}
use Rattle.wh_events.specs.Machines.{open_named}
use Rattle.wh_events.specs.Places.{place_fault, fault_after, is_over, is_named, reference_fault, role_fault}
use Rattle.wh_machines.proofs.Options.{first_none, second_none, not_faulty, is_some_none}
use Rattle.wh_machines.proofs.Histories.{place_none, later_none}

not_false : (b : Bool) → not b ≡ false → b ≡ true
not_false true h = refl
not_false false h = cc

-- no row of the table of faults applies
pub record IsAccepted (before : List Event) (event : Event) : Type 0 where
  pub numbered : event.number ≡ length before + 1
  pub unfinished : is_over before ≡ false
  pub allowed : role_fault before (role_of event.body) ≡ None

pub accepted : (before : List Event) (event : Event) → place_fault before event ≡ None → IsAccepted before event
unfolding place_fault
accepted before event h =
    let after_first = second_none _ _ h in
    let after_number = second_none _ _ after_first in
    let after_close = second_none _ _ after_number in
    record {
      numbered = eqb-true event.number (length before + 1) (not_false _ (not_faulty _ _ (first_none _ _ after_first)));
      unfinished = not_faulty _ _ (first_none _ _ after_number);
      allowed = first_none _ _ after_close;
    }

-- a reference without fault is to an earlier event
pub reference_there : (before : List Event) (thing : Thing) (number : ℕ) → reference_fault before thing number ≡ None → (eqb number 0 || ltb (length before) number) ≡ false
unfolding reference_fault
reference_there before thing number h = not_faulty _ _ (first_none _ _ h)

-- a child that is canceled by its workflow id is open
pub child_there : (before : List Event) (workflow_id : List ℕ) → role_fault before (CancelsChild workflow_id) ≡ None → is_none (open_named before Child workflow_id) ≡ false
child_there before workflow_id h = not_faulty _ _ h

-- a thing is opened under an id that no open one of its kind has
pub id_free : (before : List Event) (thing : Thing) (id : List ℕ) → is_named thing ≡ true → role_fault before (Opens thing id) ≡ None → open_named before thing id ≡ None
id_free before thing id named h = is_some_none (open_named before thing id) (not_faulty _ _ (rw named at h))

-- the events have the numbers that follow n
abbrev pub NumberedFrom : ℕ → List Event → Type 0
NumberedFrom n [] = Unit {0}
NumberedFrom n (event ∷ rest) = (event.number ≡ n + 1) × NumberedFrom (n + 1) rest

pub numbered_after : (before events : List Event) → fault_after before events ≡ None → NumberedFrom (length before) events
numbered_after before [] h = tt
numbered_after before (event ∷ rest) h =
    let here = accepted before event (place_none _ _ _ h) in
    let later = numbered_after (before ++ event ∷ []) rest (later_none _ _ _ h) in
    (here.numbered, rw length_push at later)

pub numbered_take : (n count : ℕ) (events : List Event) → NumberedFrom n events → NumberedFrom n (take count events)
numbered_take n zero events h = tt
numbered_take n (suc count) [] h = tt
numbered_take n (suc count) (event ∷ rest) h = (h.0, numbered_take (n + 1) count rest h.1)

-- each event of a history in place is in place after those before it
pub place_fault_at : (before events : List Event) (place : ℕ) (other : Event) → fault_after before events ≡ None → place < length events → place_fault (before ++ take place events) (get_or events place other) ≡ None
place_fault_at before [] place other h within = absurd (omega arith)
place_fault_at before (event ∷ rest) zero other h within = rw append-nil (place_none _ _ _ h)
place_fault_at before (event ∷ rest) (suc place) other h within =
    rw append_assoc at (place_fault_at (before ++ event ∷ []) rest place other (later_none _ _ _ h) (omega arith))
