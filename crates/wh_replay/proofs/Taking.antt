-- Events that are appended one after another.
use Rattle.std.proofs.Common.{◌≡◌, ℕ, ◌+◌, ◌≤◌, ◌↔◌, List, [], ◌∷◌, ◌++◌, length, take, drop, Option, Some, None, Result, Ok, Err, refl, sym, ap, ◌∙◌, arith}
use Rattle.std.proofs.lemmas.List.{take-append-drop}
use Rattle.wh_events.specs.declared.event.Event.{Event}
use Rattle.wh_events.specs.declared.place.PlaceFault.{PlaceFault}
use Rattle.wh_events.specs.Machines.{or_else}
use Rattle.wh_events.specs.Places.{most_events, place_fault, at_place, fault_after}
use Rattle.wh_events.proofs.Standing.{no_fault_where_in_place}
use Rattle.wh_machines.specs.declared.fault.PushFault.{PushFault}
use Rattle.wh_machines.specs.declared.fault.PushFault.TheVariants.{Place, OutOfMemory}
use Rattle.wh_replay.specs.Tracking.{Takes}
use Rattle.wh_replay.proofs.Placing.{fault_after-append}

-- a call that tells each fault and gives none
pub told_none : {A : Type 0} (result : Result A PushFault) (x : A) (o : Option PlaceFault) → ((fault : PlaceFault) → (result ≡ Err (Place fault)) ↔ (o ≡ Some fault)) → result ≡ Ok x → o ≡ None
told_none result x None tells is = refl
told_none result x (Some fault) tells is = let e = (tells fault).1 refl in cc

-- the fault of an event after those that have none
first_fault : (before xs rest : List Event) (event : Event) (fault : PlaceFault) → fault_after before xs ≡ None → place_fault (before ++ xs) event ≡ Some fault → fault_after before (xs ++ event ∷ rest) ≡ Some (length (before ++ xs) + 1, fault)
first_fault before xs rest event fault none here =
    fault_after-append before xs (event ∷ rest)
    ∙ (ap (λ o. or_else o (fault_after (before ++ xs) (event ∷ rest))) none
    ∙ ap (λ o. at_place (length (before ++ xs) + 1) o (fault_after ((before ++ xs) ++ event ∷ []) rest)) here)

-- a refused event
pub refused : (A : Type 0) (before xs rest whole after : List Event) (event : Event) (fault : PushFault) → fault_after before xs ≡ None → ((f : PlaceFault) → fault ≡ Place f → place_fault (before ++ xs) event ≡ Some f) → after ≡ before ++ xs
    → whole ≡ xs ++ event ∷ rest → Takes {A = A} before whole after (Err fault)
refused A before xs rest whole after event (Place f) none tells is all =
    ap (fault_after before) all ∙ (first_fault before xs rest event f none (tells f refl) ∙ ap (λ (l : List Event). Some (length l + 1, f)) (sym is))
refused A before xs rest whole after event OutOfMemory none tells is all = tt

-- events in place are not too many
pub few : (events : List Event) → fault_after [] events ≡ None → length events ≤ most_events
few [] e = omega arith
few (event ∷ rest) e = ((no_fault_where_in_place (event ∷ rest)).0 e).1

-- of events in place those after the first are so too
pub rest_in_place : (events : List Event) (held : ℕ) → fault_after [] events ≡ None → fault_after (take held events) (drop held events) ≡ None
rest_in_place events held e =
    by (fault_after [] (take held events)) (fault_after (take held events) (drop held events)) (sym (fault_after-append [] (take held events) (drop held events)) ∙ (ap (fault_after []) (take-append-drop held events) ∙ e))
  where
    by : (one other : Option (ℕ × PlaceFault)) → or_else one other ≡ None → other ≡ None
    by None other h = h
    by (Some x) other h = cc
