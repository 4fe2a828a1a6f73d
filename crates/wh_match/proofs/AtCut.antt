-- How things stand at a cut, by the last of a kind and an id.
use Rattle.std.proofs.Common.{◌≡◌, ℕ, zero, suc, Bool, true, false, cond, List, [], ◌∷◌, ◌++◌, take, Option, Some, None, is_some, is_none, refl, sym, ap, ◌∙◌}
use Rattle.wh_events.specs.declared.event.Event.{Event}
use Rattle.wh_events.specs.declared.place.OpenKind.{OpenKind}
use Rattle.wh_events.specs.declared.place.Status.{Status}
use Rattle.wh_events.specs.Machines.{last_named, closed_by, is_cancelling, is_started, status_by}
use Rattle.wh_events.specs.Places.{place_fault, fault_after}
use Rattle.wh_machines.specs.Lookups.{thing_of, last_at, with_status, events_between}
use Rattle.wh_machines.proofs.Histories.{place_none, later_none}
use Rattle.wh_machines.proofs.OpenNamed.{open_if, open_named_last}
use Rattle.wh_machines.proofs.Found.{is_named_kind}
use Rattle.wh_workflow.specs.Scripts.{ActivationContext, cancels_open, closer_of, has_outside}
use Rattle.wh_match.specs.declared.standing.Standing.{Standing}
use Rattle.wh_match.specs.Issuing.{context_at}
use Rattle.wh_match.specs.Private.Standings.{standing_of, standing_by}

-- the first events of a history in place are in place
pub first_placed : (count : ℕ) (before events : List Event) → fault_after before events ≡ None → fault_after before (take count events) ≡ None
first_placed zero before events h = refl
first_placed (suc count) before [] h = refl
first_placed (suc count) before (event ∷ rest) h =
    let here : place_fault before event ≡ None = place_none _ _ _ h in
    let later = first_placed count (before ++ event ∷ []) rest (later_none _ _ _ h) in
    rw (here, later) refl

-- how things of a kind and an id stand, by the last of them at the cut, if there is one
abbrev pub standing_in : List Event → Option (ℕ × Status) → Standing
standing_in between None = record { is_open = false; is_cancelling = false; is_ended = false }
standing_in between (Some last) = standing_by between last.1

-- how things stand, where this one of them is open and that one is the last
abbrev standing_with : ActivationContext → Option ℕ → Option ℕ → Standing
standing_with context found last = record { is_open = is_some found; is_cancelling = cancels_open context found; is_ended = has_outside (closer_of context.seen last) context.between }

standing_last : (context : ActivationContext) (last : Option ℕ) → standing_with context (open_if context.seen last) last ≡ standing_in context.between (with_status context.seen last)
standing_last context None = refl
standing_last context (Some number) = by (closed_by number context.seen) (is_cancelling context.seen number) (is_started context.seen number) refl
  where
    by : (closed : Option ℕ) (cancelling started : Bool) → is_cancelling context.seen number ≡ cancelling
        → record { is_open = is_some (cond (is_none closed) (Some number) None); is_cancelling = cancels_open context (cond (is_none closed) (Some number) None); is_ended = has_outside closed context.between } ≡ standing_by context.between (status_by closed cancelling started)
    by (Some closer) cancelling started e = refl
    by None true started e = ap (λ b. record { is_open = true; is_cancelling = b; is_ended = false }) e
    by None false true e = ap (λ b. record { is_open = true; is_cancelling = b; is_ended = false }) e
    by None false false e = ap (λ b. record { is_open = true; is_cancelling = b; is_ended = false }) e

-- a look-up of the last thing tells how things stand
pub standing_found : (events : List Event) (previous cut : ℕ) (kind : OpenKind) (id : List ℕ) → fault_after [] events ≡ None
    → standing_of (context_at events previous cut None) (thing_of kind) id ≡ standing_in (events_between events previous cut) (last_at events (thing_of kind) id cut)
standing_found events previous cut kind id placed =
    let context = context_at events previous cut None in
    let thing = thing_of kind in
    let found = open_named_last thing id (take cut events) (is_named_kind kind) (first_placed cut [] events placed) in
    ap (λ o. standing_with context o (last_named (take cut events) thing id)) found ∙ standing_last context (last_named (take cut events) thing id)

module _ (events : List Event) (previous cut : ℕ) (kind : OpenKind) (id : List ℕ) (placed : fault_after [] events ≡ None) (place : ℕ) (here : place ≡ cut) where
  pub standing_absent : None ≡ last_at events (thing_of kind) id place → record { is_open = false; is_cancelling = false; is_ended = false } ≡ standing_of (context_at events previous cut None) (thing_of kind) id
  standing_absent h = sym (standing_found events previous cut kind id placed ∙ ap (standing_in (events_between events previous cut)) (ap (last_at events (thing_of kind) id) (sym here) ∙ sym h))

  pub standing_told : (number : ℕ) (status : Status) → Some (number, status) ≡ last_at events (thing_of kind) id place → standing_by (events_between events previous place) status ≡ standing_of (context_at events previous cut None) (thing_of kind) id
  standing_told number status h =
      ap (λ n. standing_by (events_between events previous n) status) here
      ∙ sym (standing_found events previous cut kind id placed ∙ ap (standing_in (events_between events previous cut)) (ap (last_at events (thing_of kind) id) (sym here) ∙ sym h))
