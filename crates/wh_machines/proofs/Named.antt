-- The last thing that was opened of a kind under an id.
use Rattle.std.proofs.Common.{◌≡◌, ℕ, zero, suc, ◌+◌, ◌-◌, ◌<◌, ◌≤◌, Bool, true, false, ◌&&◌, List, [], ◌∷◌, length, take, Option, Some, None, slice_get, refl, sym, ap, ◌∙◌, arith}
use Rattle.std.specs.Str.{bytes_eq}
use Rattle.std.proofs.lemmas.Slice.Eq.{bytes_eq-Decides}
use Rattle.std.proofs.lemmas.Option.{slice_get_within}
use Rattle.wh_events.specs.declared.event.Event.{Event}
use Rattle.wh_events.specs.declared.place.Thing.{Thing}
use Rattle.wh_events.specs.declared.place.Thing.TheVariants.{Activity, Timer, Child, CancelRequest, SignalRequest}
use Rattle.wh_events.specs.Kinds.{Role}
use Rattle.wh_events.specs.Kinds.Role.{Opens}
use Rattle.wh_events.specs.Kinds.{role_of}
use Rattle.wh_events.specs.Machines.{or_else, same_thing, opens, opens_under, last_named, role_at, role_in}
use Rattle.wh_machines.proofs.Histories.{number_if}
use Rattle.wh_machines.proofs.Placed.{NumberedFrom}

pub same_thing-is : (a b : Thing) → same_thing a b ≡ true → a ≡ b
same_thing-is Activity Activity h = refl
same_thing-is Timer Timer h = refl
same_thing-is Child Child h = refl
same_thing-is CancelRequest CancelRequest h = refl
same_thing-is SignalRequest SignalRequest h = refl
same_thing-is _ _ h = cc

pub both_left : (a b : Bool) → (a && b) ≡ true → a ≡ true
both_left true b h = refl
both_left false b h = h

pub both_right : (a b : Bool) → (a && b) ≡ true → b ≡ true
both_right true b h = h
both_right false b h = cc

pub opens_under-is : (thing : Thing) (id : List ℕ) (role : Role) → opens_under thing id role ≡ true → role ≡ Opens thing id
opens_under-is thing id (Opens other other_id) h =
    let things = same_thing-is thing other (both_left (same_thing thing other) (bytes_eq id other_id) h) in
    let ids = (bytes_eq-Decides id other_id).0 (both_right (same_thing thing other) (bytes_eq id other_id) h) in
    cc
opens_under-is thing id _ h = cc

-- the event at a place opens such a thing, and its number is the one given
pub record OpensAt (events : List Event) (thing : Thing) (id : List ℕ) (n number : ℕ) : Type 0 where
  pub place : ℕ
  pub event : Event
  pub at : slice_get events place ≡ Some event
  pub numbered : number ≡ n + place + 1
  pub opened : opens thing id event ≡ true

module _ (thing : Thing) (id : List ℕ) where
  pub opens_at : (n number : ℕ) (events : List Event) → NumberedFrom n events → last_named events thing id ≡ Some number → OpensAt events thing id n number
  opens_at n number [] numbered h = cc
  opens_at n number (event ∷ rest) numbered h = by (last_named rest thing id) (λ e. opens_at (n + 1) number rest numbered.1 e) refl h
    where
      here : (b : Bool) → opens thing id event ≡ b → number_if b event ≡ Some number → OpensAt (event ∷ rest) thing id n number
      here true e k = record { place = 0; event = event; at = refl; numbered = (let first = numbered.0 in let same : event.number ≡ number = cc in omega arith); opened = e }
      here false e k = cc

      by : (o : Option ℕ) → (last_named rest thing id ≡ Some number → OpensAt rest thing id (n + 1) number) → last_named rest thing id ≡ o → or_else o (number_if (opens thing id event) event) ≡ Some number → OpensAt (event ∷ rest) thing id n number
      by None later e k = here (opens thing id event) refl k
      by (Some last) later e k =
          let there = later (e ∙ k) in
          record { place = suc there.place; event = there.event; at = there.at; numbered = (let far = there.numbered in omega arith); opened = there.opened }

  -- the event of the number opens the thing
  pub last_named_role : (number : ℕ) (events : List Event) → NumberedFrom 0 events → last_named events thing id ≡ Some number → (0 < number) × (number ≤ length events) × (role_at events number ≡ Opens thing id)
  last_named_role number events numbered h =
      let found = opens_at 0 number events numbered h in
      let is = found.numbered in
      let within = slice_get_within events found.place found.event found.at in
      let index : number - 1 ≡ found.place = omega arith in
      (omega arith, omega arith, ap (λ k. role_in (slice_get events k)) index ∙ ap role_in found.at ∙ opens_under-is thing id (role_of found.event.body) found.opened)

  -- a last thing that is not past the place is the last one up to it
  pub last_named-take : (count n : ℕ) (events : List Event) (last : Option ℕ) → NumberedFrom n events → last_named events thing id ≡ last → ((number : ℕ) → last ≡ Some number → number ≤ n + count) → last_named (take count events) thing id ≡ last
  last_named-take count n [] last numbered h low = nothing count ∙ h
    where
      nothing : (k : ℕ) → last_named (take k []) thing id ≡ None
      nothing zero = refl
      nothing (suc k) = refl
  last_named-take zero n (event ∷ rest) None numbered h low = refl
  last_named-take zero n (event ∷ rest) (Some number) numbered h low =
      let found = opens_at n number (event ∷ rest) numbered h in
      let far = found.numbered in
      let near = low number refl in
      absurd (omega arith)
  last_named-take (suc count) n (event ∷ rest) last numbered h low = by (last_named rest thing id) (λ o. last_named-take count (n + 1) rest o numbered.1) refl h
    where
      by : (o : Option ℕ) → ((p : Option ℕ) → last_named rest thing id ≡ p → ((number : ℕ) → p ≡ Some number → number ≤ (n + 1) + count) → last_named (take count rest) thing id ≡ p) → last_named rest thing id ≡ o → or_else o (number_if (opens thing id event) event) ≡ last → or_else (last_named (take count rest) thing id) (number_if (opens thing id event) event) ≡ last
      by None later e k = rw (later None e (λ number same. cc)) k
      by (Some number) later e k =
          rw (later (Some number) e (λ other same. let near = low other (sym k ∙ same) in omega arith)) k

pub slice_get-take : {X : Type 0} (count k : ℕ) (xs : List X) → k < count → slice_get (take count xs) k ≡ slice_get xs k
slice_get-take zero k xs h = absurd (omega arith)
slice_get-take (suc count) k [] h = refl
slice_get-take (suc count) zero (x ∷ xs) h = refl
slice_get-take (suc count) (suc k) (x ∷ xs) h = slice_get-take count k xs (omega arith)
