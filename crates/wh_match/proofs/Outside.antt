-- An outside event between two places, looked up by its number.
use Rattle.std.proofs.Common.{◌≡◌, ℕ, zero, suc, ◌+◌, ◌-◌, ◌<◌, ◌≤◌, Bool, true, false, ◌&&◌, ◌||◌, eqb, List, [], ◌∷◌, take, drop, Some, None, slice_get, refl, ap, ◌∙◌, arith}
use Rattle.std.proofs.lemmas.Bool.{eqb-true, eqb-false, ne_eqb}
use Rattle.wh_events.specs.declared.event.Event.{Event}
use Rattle.wh_events.specs.Cuts.{is_outside}
use Rattle.wh_events.specs.Places.{fault_after}
use Rattle.wh_machines.specs.Lookups.{events_between}
use Rattle.wh_machines.proofs.Placed.{NumberedFrom, numbered_after}
use Rattle.wh_workflow.specs.Scripts.{has_outside}
use Rattle.wh_match.specs.Private.Standings.{is_outside_in}

not_alone : (b : Bool) → (b && false) ≡ false
not_alone true = refl
not_alone false = refl

both_first : (a b : Bool) → b ≡ false → ((a && true) || b) ≡ a
both_first true b h = refl
both_first false b h = h

-- without events there is none at any place
none_held : (i : ℕ) → false ≡ is_outside_in (slice_get [] i)
none_held zero = refl
none_held (suc i) = refl

module _ (by : ℕ) where
  none_among : (k m : ℕ) → has_outside (Some by) (drop k (take m [])) ≡ false
  none_among zero zero = refl
  none_among zero (suc m) = refl
  none_among (suc k) zero = refl
  none_among (suc k) (suc m) = refl

  none_taken : (k : ℕ) (events : List Event) → has_outside (Some by) (drop k (take zero events)) ≡ false
  none_taken zero events = refl
  none_taken (suc k) events = refl

  -- an event of another number is passed over
  passed : (event : Event) (rest : List Event) → eqb by event.number ≡ false → has_outside (Some by) (event ∷ rest) ≡ has_outside (Some by) rest
  passed event rest h = ap (λ b. (is_outside event && b) || has_outside (Some by) rest) h ∙ ap (λ b. b || has_outside (Some by) rest) (not_alone (is_outside event))

  before_all : (n k m : ℕ) (events : List Event) → NumberedFrom n events → by ≤ n + k → has_outside (Some by) (drop k (take m events)) ≡ false
  before_all n k m [] numbered h = none_among k m
  before_all n k zero (event ∷ rest) numbered h = none_taken k (event ∷ rest)
  before_all n zero (suc m) (event ∷ rest) numbered h =
      let number = numbered.0 in
      passed event (take m rest) (ne_eqb by event.number (omega arith)) ∙ before_all (n + 1) zero m rest numbered.1 (omega arith)
  before_all n (suc k) (suc m) (event ∷ rest) numbered h = before_all (n + 1) k m rest numbered.1 (omega arith)

  after_all : (n k m : ℕ) (events : List Event) → NumberedFrom n events → n + m < by → has_outside (Some by) (drop k (take m events)) ≡ false
  after_all n k m [] numbered h = none_among k m
  after_all n k zero (event ∷ rest) numbered h = none_taken k (event ∷ rest)
  after_all n zero (suc m) (event ∷ rest) numbered h =
      let number = numbered.0 in
      passed event (take m rest) (ne_eqb by event.number (omega arith)) ∙ after_all (n + 1) zero m rest numbered.1 (omega arith)
  after_all n (suc k) (suc m) (event ∷ rest) numbered h = after_all (n + 1) k m rest numbered.1 (omega arith)

  shifted : (n : ℕ) (event : Event) (rest : List Event) → n + 1 < by → is_outside_in (slice_get rest (by - 1 - (n + 1))) ≡ is_outside_in (slice_get (event ∷ rest) (by - 1 - n))
  shifted n event rest h =
      let next : suc (by - 1 - (n + 1)) ≡ by - 1 - n = omega arith in
      ap (λ i. is_outside_in (slice_get (event ∷ rest) i)) next

  among : (n k m : ℕ) (events : List Event) → NumberedFrom n events → n + k < by → by ≤ n + m → has_outside (Some by) (drop k (take m events)) ≡ is_outside_in (slice_get events (by - 1 - n))
  among n k m [] numbered low high = none_among k m ∙ none_held (by - 1 - n)
  among n k zero (event ∷ rest) numbered low high = absurd (omega arith)
  among n zero (suc m) (event ∷ rest) numbered low high = at (eqb by event.number) refl (λ far. among (n + 1) zero m rest numbered.1 (omega arith) (omega arith))
    where
      at : (b : Bool) → eqb by event.number ≡ b → (n + 1 < by → has_outside (Some by) (take m rest) ≡ is_outside_in (slice_get rest (by - 1 - (n + 1))))
          → ((is_outside event && eqb by event.number) || has_outside (Some by) (take m rest)) ≡ is_outside_in (slice_get (event ∷ rest) (by - 1 - n))
      at true e later =
          let same = eqb-true by event.number e in
          let number = numbered.0 in
          let first : 0 ≡ by - 1 - n = omega arith in
          ap (λ b. (is_outside event && b) || has_outside (Some by) (take m rest)) e
          ∙ both_first (is_outside event) (has_outside (Some by) (take m rest)) (before_all (n + 1) zero m rest numbered.1 (omega arith))
          ∙ ap (λ i. is_outside_in (slice_get (event ∷ rest) i)) first
      at false e later =
          let number = numbered.0 in
          let other = eqb-false by event.number e in
          let far : n + 1 < by = omega arith in
          passed event (take m rest) e ∙ later far ∙ shifted n event rest far
  among n (suc k) (suc m) (event ∷ rest) numbered low high =
      among (n + 1) k m rest numbered.1 (omega arith) (omega arith) ∙ shifted n event rest (omega arith)

module _ (events : List Event) (previous cut by : ℕ) (placed : fault_after [] events ≡ None) where
  numbers : NumberedFrom 0 events
  numbers = numbered_after [] events placed

  -- a number that is not between is of no event there
  pub none_before : by ≤ previous → has_outside (Some by) (events_between events previous cut) ≡ false
  none_before h = before_all by 0 previous (cut - 1) events numbers (omega arith)

  pub none_after : 0 < by → cut ≤ by → has_outside (Some by) (events_between events previous cut) ≡ false
  none_after positive h = after_all by 0 previous (cut - 1) events numbers (omega arith)

  -- and a number between is that of the event at its place, if there is one
  pub found_between : previous < by → by < cut → has_outside (Some by) (events_between events previous cut) ≡ is_outside_in (slice_get events (by - 1))
  found_between low high =
      let index : by - 1 - 0 ≡ by - 1 = omega arith in
      among by 0 previous (cut - 1) events numbers (omega arith) (omega arith) ∙ ap (λ i. is_outside_in (slice_get events i)) index
