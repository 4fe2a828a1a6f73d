-- What the answers of a track say about its events.
use Rattle.std.proofs.Common.{◌≡◌, ℕ, zero, suc, ◌-◌, ◌<◌, ◌≤◌, Bool, true, false, cond, eqb, List, [], ◌∷◌, length, take, Option, Some, None, is_some, is_none, unwrap_or, slice_get, refl, sym, ap, ◌∙◌, arith}
use Rattle.std.specs.Prelude.{nat_lt}
use Rattle.std.proofs.lemmas.Bool.{ne_eqb}
use Rattle.std.proofs.lemmas.Bool.Decides.{nat_tests}
use Rattle.std.proofs.lemmas.List.{take_all, take-take, length-take}
use Rattle.wh_events.specs.declared.event.Event.{Event}
use Rattle.wh_events.specs.declared.place.OpenKind.{OpenKind}
use Rattle.wh_events.specs.declared.place.OpenKind.TheVariants.{Activity, Timer, Child}
use Rattle.wh_events.specs.declared.place.Thing.{Thing}
use Rattle.wh_events.specs.Kinds.{Role, role_of}
use Rattle.wh_events.specs.Kinds.Role.{Opens, Refers, CancelsChild, Plain}
use Rattle.wh_events.specs.Machines.{closed_by, opened_thing, open_named, last_named, role_at, role_in, status_of, status_at}
use Rattle.wh_events.specs.Places.{fault_after, is_named}
use Rattle.wh_machines.specs.Lookups.{thing_of, last_at, with_status}
use Rattle.wh_machines.specs.declared.opening.Opening.{Opening}
use Rattle.wh_machines.specs.Private.Openings.{named_of, opening_with, opened_by, opening_of, status_up_to}
use Rattle.wh_machines.specs.declared.jumps.Jump.{Jump}
use Rattle.wh_machines.specs.Private.Jumps.{jump_at, back_by, IsAlike, JumpsBack}
use Rattle.wh_machines.proofs.Chain.{IsLastWithin}
use Rattle.wh_machines.proofs.Placed.{NumberedFrom, numbered_after, numbered_take}
use Rattle.wh_machines.proofs.Firsts.{closed_by-first, status_up_to_is}
use Rattle.wh_machines.proofs.Named.{opens_under-is, opens_at, last_named_role, last_named-take}
use Rattle.wh_machines.proofs.OpenNamed.{open_named_last}
use Rattle.wh_machines.proofs.Jumping.{last_up_to}

-- what is kept of a thing is told by the events
pub record IsOpening (events : List Event) (number : ℕ) (opening : Opening) : Type 0 where
  pub previous : Option ℕ
  pub is : opening ≡ opening_with events number previous
  pub opened : is_some (opened_thing (role_at events number)) ≡ true

module _ (events : List Event) (number : ℕ) (positive : 0 < number) where
  nonzero : eqb number 0 ≡ false
  nonzero = ne_eqb number 0 (omega arith)

  opened_shape : (role : Role) (opening : Opening) → role_at events number ≡ role → opened_by events number role ≡ Some opening → IsOpening events number opening
  opened_shape (Opens thing id) opening at h = record { previous = named_of (take (number - 1) events) thing id; is = cc; opened = ap (λ r. is_some (opened_thing r)) at }
  opened_shape (CancelsChild workflow_id) opening at h = record { previous = None; is = cc; opened = ap (λ r. is_some (opened_thing r)) at }
  opened_shape (Refers thing target effect) opening at h = cc
  opened_shape Plain opening at h = cc

  pub opening_shape : (opening : Opening) → opening_of events number ≡ Some opening → IsOpening events number opening
  opening_shape opening h = opened_shape (role_at events number) opening refl (rw nonzero at h)

  pub closed_is : (opening : Opening) → opening_of events number ≡ Some opening → opening.closed ≡ closed_by number events
  closed_is opening h = ap (λ o. o.closed) ((opening_shape opening h).is) ∙ sym (closed_by-first number [] events)

  pub status_found : (opening : Opening) → fault_after [] events ≡ None → opening_of events number ≡ Some opening → Some (status_up_to (length events) opening) ≡ status_at events number
  status_found opening placed h =
      let shape = opening_shape opening h in
      ap (λ o. Some (status_up_to (length events) o)) shape.is
      ∙ ap Some (status_up_to_is events number (length events) shape.previous (numbered_after [] events placed))
      ∙ ap (λ list. Some (status_of list number)) (take_all (length events) events (omega arith))
      ∙ ap (λ b. cond b (Some (status_of events number)) None) (sym shape.opened)

same_previous : (o : Option Opening) (x y : Opening) → o ≡ Some x → o ≡ Some y → x.previous ≡ y.previous
same_previous o x y h k = let same : x ≡ y = cc in ap (λ (p : Opening). p.previous) same

-- the last thing under an id is kept
pub last_opened : (events : List Event) (thing : Thing) (id : List ℕ) (number : ℕ) → fault_after [] events ≡ None → last_named events thing id ≡ Some number
    → opening_of events number ≡ Some (opening_with events number (named_of (take (number - 1) events) thing id))
last_opened events thing id number placed h =
    let found = last_named_role thing id number events (numbered_after [] events placed) h in
    rw (ne_eqb number 0 (let positive = found.0 in omega arith)) (ap (opened_by events number) found.2)

pub last_kept : (events : List Event) (thing : Thing) (id : List ℕ) → is_named thing ≡ true → named_of events thing id ≡ last_named events thing id
last_kept events thing id named = ap (λ b. cond b (last_named events thing id) None) named

pub is_named_kind : (kind : OpenKind) → is_named (thing_of kind) ≡ true
is_named_kind Activity = refl
is_named_kind Timer = refl
is_named_kind Child = refl

module _ (events : List Event) (thing : Thing) (id : List ℕ) (named : is_named thing ≡ true) (placed : fault_after [] events ≡ None) where
  pub none_open : last_named events thing id ≡ None → open_named events thing id ≡ None
  none_open h = rw h at (open_named_last thing id events named placed)

  pub last_open : (number : ℕ) (opening : Opening) → last_named events thing id ≡ Some number → opening_of events number ≡ Some opening → open_named events thing id ≡ cond (is_none opening.closed) (Some number) None
  last_open number opening h found =
      let role = last_named_role thing id number events (numbered_after [] events placed) h in
      rw h at (open_named_last thing id events named placed)
      ∙ ap (λ o. cond (is_none o) (Some number) None) (sym (closed_is events number role.0 opening found))

slice_get_from_take : {X : Type 0} (count k : ℕ) (xs : List X) (x : X) → slice_get (take count xs) k ≡ Some x → slice_get xs k ≡ Some x
slice_get_from_take zero k xs x h = cc
slice_get_from_take (suc count) k [] x h = h
slice_get_from_take (suc count) zero (y ∷ xs) x h = h
slice_get_from_take (suc count) (suc k) (y ∷ xs) x h = slice_get_from_take count k xs x h

module _ (events : List Event) (thing : Thing) (id : List ℕ) (place : ℕ) (placed : fault_after [] events ≡ None) where
  pub walk_start : (last : Option ℕ) → last ≡ last_named events thing id → IsLastWithin events thing id place last
  walk_start last h =
      let all = take_all (length events) events (omega arith) in
      record { count = length events; reaches = ap (take place) all; is = h ∙ ap (λ list. last_named list thing id) (sym all) }

  numbered_first : (count : ℕ) → NumberedFrom 0 (take count events)
  numbered_first count = numbered_take 0 count events (numbered_after [] events placed)

  walk_role : (number : ℕ) → IsLastWithin events thing id place (Some number) → (0 < number) × (role_at events number ≡ Opens thing id)
  walk_role number within =
      let found = opens_at thing id 0 number (take within.count events) (numbered_first within.count) (sym within.is) in
      let far = found.numbered in
      let index : number - 1 ≡ found.place = omega arith in
      let at = slice_get_from_take within.count found.place events found.event found.at in
      (omega arith, ap (λ k. role_in (slice_get events k)) index ∙ ap role_in at ∙ opens_under-is thing id (role_of found.event.body) found.opened)

  -- the thing at which the walk stands is kept
  pub walk_opened : (number : ℕ) → IsLastWithin events thing id place (Some number) → (0 < number) × (opening_of events number ≡ Some (opening_with events number (named_of (take (number - 1) events) thing id)))
  walk_opened number within =
      let role = walk_role number within in
      let positive = role.0 in
      (positive, rw (ne_eqb number 0 (omega arith)) (ap (opened_by events number) role.1))

  walk_back : (number : ℕ) → is_named thing ≡ true → place < number → IsLastWithin events thing id place (named_of (take (number - 1) events) thing id)
  walk_back number named past =
      record { count = number - 1; reaches = take-take place (number - 1) events (omega arith); is = last_kept (take (number - 1) events) thing id named }

  pub walk_end : IsLastWithin events thing id place None → last_named (take place events) thing id ≡ None
  walk_end within =
      ap (λ list. last_named list thing id) (sym within.reaches)
      ∙ last_named-take thing id place 0 (take within.count events) None (numbered_first within.count) (sym within.is) (λ number same. cc)

  pub walk_here : (number : ℕ) → number ≤ place → IsLastWithin events thing id place (Some number) → last_named (take place events) thing id ≡ Some number
  walk_here number near within =
      ap (λ list. last_named list thing id) (sym within.reaches)
      ∙ last_named-take thing id place 0 (take within.count events) (Some number) (numbered_first within.count) (sym within.is) (λ other same. let is : number ≡ other = cc in omega arith)

  -- what the walk answers at a thing that is not past the place
  pub walk_status : (number : ℕ) (opening : Opening) → number ≤ place → IsLastWithin events thing id place (Some number) → opening_of events number ≡ Some opening
      → Some (number, status_up_to place opening) ≡ last_at events thing id place
  walk_status number opening near within found =
      let shape = opening_shape events number ((walk_opened number within).0) opening found in
      ap (λ o. Some (number, status_up_to place o)) shape.is
      ∙ ap (λ s. Some (number, s)) (status_up_to_is events number place shape.previous (numbered_after [] events placed))
      ∙ sym (ap (with_status (take place events)) (walk_here number near within))

  -- a walk back comes to smaller numbers
  before_smaller : (number : ℕ) → 0 < number → unwrap_or (named_of (take (number - 1) events) thing id) 0 < number
  before_smaller number positive = by (is_named thing) (last_named (take (number - 1) events) thing id) refl
    where
      by : (b : Bool) (o : Option ℕ) → last_named (take (number - 1) events) thing id ≡ o → unwrap_or (cond b (last_named (take (number - 1) events) thing id) None) 0 < number
      by false o e = positive
      by true None e = rw e positive
      by true (Some last) e =
          let role = last_named_role thing id last (take (number - 1) events) (numbered_first (number - 1)) e in
          let low = role.1 in
          let size = length-take (number - 1) events in
          rw e (omega arith)

  module _ (number : ℕ) (jumps : List Jump) (back : JumpsBack events jumps) (within : IsLastWithin events thing id place (Some number)) where
    walk_jump : (to : ℕ) → place < to → jump_at jumps number ≡ Some to → IsLastWithin events thing id place (Some to)
    walk_jump to past at =
        let role = walk_role number within in
        let there = back.alike number to role.0 at in
        let alike = there.1 in
        record { count = to; reaches = take-take place to events (omega arith); is = sym (last_up_to thing id to events (numbered_after [] events placed) (alike.0, alike.1, alike.2 ∙ role.1)) }

    walk_from : (o : Option ℕ) → jump_at jumps number ≡ o → is_named thing ≡ true → place < number → IsLastWithin events thing id place (back_by place o (named_of (take (number - 1) events) thing id))
    walk_from None at named past = walk_back number named past
    walk_from (Some to) at named past = chosen (nat_lt place to) refl
      where
        chosen : (b : Bool) → nat_lt place to ≡ b → IsLastWithin events thing id place (cond b (Some to) (named_of (take (number - 1) events) thing id))
        chosen true e = walk_jump to (let farther : place < to = grind (arith, nat_tests) in farther) at
        chosen false e = walk_back number named past

    smaller_from : (o : Option ℕ) → jump_at jumps number ≡ o → unwrap_or (back_by place o (named_of (take (number - 1) events) thing id)) 0 < number
    smaller_from None at = before_smaller number (walk_role number within).0
    smaller_from (Some to) at = chosen (nat_lt place to)
      where
        chosen : (b : Bool) → unwrap_or (cond b (Some to) (named_of (take (number - 1) events) thing id)) 0 < number
        chosen true = (back.alike number to (walk_role number within).0 at).0
        chosen false = before_smaller number (walk_role number within).0

    module _ (opening : Opening) (found : opening_of events number ≡ Some opening) (next : Option ℕ) (is : next ≡ back_by place (jump_at jumps number) opening.previous) where
      next_is : next ≡ back_by place (jump_at jumps number) (named_of (take (number - 1) events) thing id)
      next_is = is ∙ ap (back_by place (jump_at jumps number)) (same_previous (opening_of events number) _ _ found (walk_opened number within).1)

      -- a walk goes on from a thing past the place
      pub walk_on : is_named thing ≡ true → place < number → IsLastWithin events thing id place next
      walk_on named past = rw next_is (walk_from (jump_at jumps number) refl named past)

      pub walk_smaller : unwrap_or next 0 < number
      walk_smaller = rw next_is (smaller_from (jump_at jumps number) refl)

-- the last thing under an id is alike to what opens the next one under it
pub last_alike : (events : List Event) (thing : Thing) (id : List ℕ) (previous : ℕ) → fault_after [] events ≡ None → named_of events thing id ≡ Some previous → IsAlike events (Opens thing id) previous
last_alike events thing id previous placed h = let found = last_named_role thing id previous events (numbered_after [] events placed) (by (is_named thing) (last_named events thing id) h) in (found.0, found.1, found.2)
  where
    by : (b : Bool) (o : Option ℕ) → cond b o None ≡ Some previous → o ≡ Some previous
    by true o e = e
    by false o e = cc
