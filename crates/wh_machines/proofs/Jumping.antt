-- The jumps with one event more, and where a jump comes to.
use Rattle.std.proofs.Common.{◌≡◌, ℕ, zero, suc, ◌+◌, ◌-◌, ◌<◌, ◌≤◌, ◌⊎◌, true, ◌&&◌, List, [], ◌∷◌, ◌++◌, length, take, Option, Some, None, slice_get, refl, sym, ap, ◌∙◌, inl, inr, arith}
use Rattle.std.specs.Prelude.{IfSome}
use Rattle.std.specs.Str.{bytes_eq}
use Rattle.std.proofs.lemmas.Bool.{cases_lt}
use Rattle.std.proofs.lemmas.List.{length_push}
use Rattle.std.proofs.lemmas.Option.{slice_get_past}
use Rattle.std.proofs.lemmas.Slice.Eq.{bytes_eq-Decides}
use Rattle.wh_events.specs.declared.event.Event.{Event}
use Rattle.wh_events.specs.declared.place.Thing.{Thing}
use Rattle.wh_events.specs.declared.place.Thing.TheVariants.{Activity, Timer, Child, CancelRequest, SignalRequest}
use Rattle.wh_events.specs.Kinds.{Role, role_of}
use Rattle.wh_events.specs.Kinds.Role.{Opens}
use Rattle.wh_events.specs.Machines.{or_else, same_thing, opens, opens_under, last_named, role_at, role_in}
use Rattle.wh_machines.specs.declared.jumps.Jump.{Jump}
use Rattle.wh_machines.specs.Private.Jumps.{target_of, jump_at, IsShort, IsAlike, JumpsBack}
use Rattle.wh_machines.proofs.Histories.{number_if}
use Rattle.wh_machines.proofs.Placed.{NumberedFrom}

pub slice_get-append_left : {X : Type 0} (xs ys : List X) (k : ℕ) → k < length xs → slice_get (xs ++ ys) k ≡ slice_get xs k
slice_get-append_left [] ys k h = absurd (omega arith)
slice_get-append_left (x ∷ xs) ys zero h = refl
slice_get-append_left (x ∷ xs) ys (suc k) h = slice_get-append_left xs ys k (omega arith)

pub slice_get_end : {X : Type 0} (xs : List X) (x : X) → slice_get (xs ++ x ∷ []) (length xs) ≡ Some x
slice_get_end [] x = refl
slice_get_end (y ∷ xs) x = slice_get_end xs x

-- ---- one more event

-- what is alike among the events is so with one more
alike-push : (events : List Event) (event : Event) (role : Role) (number : ℕ) → IsAlike events role number → IsAlike (events ++ event ∷ []) role number
alike-push events event role number h =
    let positive = h.0 in
    let within = h.1 in
    let size = length_push events event in
    (positive, omega arith, ap role_in (slice_get-append_left events (event ∷ []) (number - 1) (omega arith)) ∙ h.2)

role_at-push : (events : List Event) (event : Event) (number : ℕ) → 0 < number → number ≤ length events → role_at (events ++ event ∷ []) number ≡ role_at events number
role_at-push events event number positive within = ap role_in (slice_get-append_left events (event ∷ []) (number - 1) (omega arith))

some_is : (P : ℕ → Type 0) (o : Option ℕ) (x : ℕ) → IfSome o P → o ≡ Some x → P x
some_is P None x h e = cc
some_is P (Some y) x h e = let same : y ≡ x = cc in rw (← same) h

module _ (events : List Event) (event : Event) (jumps : List Jump) (jump : Jump) (back : JumpsBack events jumps) (new : IfSome jump.to (IsAlike events (role_of event.body))) where
  even : length jumps ≡ length events
  even = back.even

  pub jumps_back-push : JumpsBack (events ++ event ∷ []) (jumps ++ jump ∷ [])
  jumps_back-push = record {
    even = (let one = length_push jumps jump in let other = length_push events event in let same = even in omega arith);
    alike = λ number to positive at. by number to positive (cases_lt (length events) number) at;
  }
    where
      new_role : (number : ℕ) → number ≡ length events + 1 → role_at (events ++ event ∷ []) number ≡ role_of event.body
      new_role number is = let index : number - 1 ≡ length events = omega arith in ap (λ k. role_in (slice_get (events ++ event ∷ []) k)) index ∙ ap role_in (slice_get_end events event)

      new_jump : (number : ℕ) → number ≡ length events + 1 → jump_at (jumps ++ jump ∷ []) number ≡ jump.to
      new_jump number is =
          let same = even in
          let index : number - 1 ≡ length jumps = omega arith in
          ap (λ k. target_of (slice_get (jumps ++ jump ∷ []) k)) index ∙ ap target_of (slice_get_end jumps jump)

      at_end : (number to : ℕ) → number ≡ length events + 1 → jump_at (jumps ++ jump ∷ []) number ≡ Some to → (to < number) × IsAlike (events ++ event ∷ []) (role_at (events ++ event ∷ []) number) to
      at_end number to is at =
          let there = some_is (IsAlike events (role_of event.body)) jump.to to new (sym (new_jump number is) ∙ at) in
          let near = there.1 in
          let alike = alike-push events event (role_of event.body) to there in
          (omega arith, (alike.0, alike.1, alike.2 ∙ sym (new_role number is)))

      none_past : (number to : ℕ) → length events + 1 < number → jump_at (jumps ++ jump ∷ []) number ≡ Some to → ⊥
      none_past number to past at =
          let same = even in
          let size = length_push jumps jump in
          let nothing : jump_at (jumps ++ jump ∷ []) number ≡ None = ap target_of (slice_get_past (jumps ++ jump ∷ []) (number - 1) (omega arith)) in
          cc

      by : (number to : ℕ) → 0 < number → (length events < number) ⊎ (number ≤ length events) → jump_at (jumps ++ jump ∷ []) number ≡ Some to
          → (to < number) × IsAlike (events ++ event ∷ []) (role_at (events ++ event ∷ []) number) to
      by number to positive (inr within) at =
          let same = even in
          let old : jump_at (jumps ++ jump ∷ []) number ≡ jump_at jumps number = ap target_of (slice_get-append_left jumps (jump ∷ []) (number - 1) (omega arith)) in
          let there = back.alike number to positive (sym old ∙ at) in
          let alike = alike-push events event (role_at events number) to there.1 in
          (there.0, (alike.0, alike.1, alike.2 ∙ sym (role_at-push events event number positive within)))
      by number to positive (inl past) at = elim (cases_lt (length events + 1) number) [
        | inl beyond ↦ absurd (none_past number to beyond at)
        | inr end ↦ at_end number to (omega arith) at
      ]

-- ---- where a jump comes to

-- what is two jumps before is alike too
pub short_alike : (events : List Event) (jumps : List Jump) (role : Role) (from to : ℕ) → JumpsBack events jumps → IsAlike events role from → IsShort jumps from to → IsAlike events role to
short_alike events jumps role from to back start (inl same) = rw (← same) start
short_alike events jumps role from to back start (inr jumped) =
    let one = back.alike from jumped.0 start.0 jumped.1 in
    let two = back.alike jumped.0 to one.1.0 jumped.2 in
    (two.1.0, two.1.1, two.1.2 ∙ one.1.2 ∙ start.2)

pub each_short : (events : List Event) (jumps : List Jump) (role : Role) (from : ℕ) (o : Option ℕ) → JumpsBack events jumps → IsAlike events role from → IfSome o (IsShort jumps from) → IfSome o (IsAlike events role)
each_short events jumps role from None back start h = tt
each_short events jumps role from (Some to) back start h = short_alike events jumps role from to back start h

same_thing-refl : (thing : Thing) → same_thing thing thing ≡ true
same_thing-refl Activity = refl
same_thing-refl Timer = refl
same_thing-refl Child = refl
same_thing-refl CancelRequest = refl
same_thing-refl SignalRequest = refl

opens_under-refl : (thing : Thing) (id : List ℕ) → opens_under thing id (Opens thing id) ≡ true
opens_under-refl thing id = ap (λ b. b && bytes_eq id id) (same_thing-refl thing) ∙ (bytes_eq-Decides id id).1 refl

module _ (thing : Thing) (id : List ℕ) where
  last_here : (k n : ℕ) (events : List Event) (event : Event) → NumberedFrom n events → slice_get events k ≡ Some event → opens thing id event ≡ true → last_named (take (suc k) events) thing id ≡ Some (n + k + 1)
  last_here k n [] event numbered at opened = cc
  last_here zero n (first ∷ rest) event numbered at opened =
      let same : first ≡ event = cc in
      let is : first.number ≡ n + 0 + 1 = (let number = numbered.0 in omega arith) in
      ap (λ b. number_if b first) (ap (opens thing id) same ∙ opened) ∙ ap Some is
  last_here (suc k) n (first ∷ rest) event numbered at opened =
      let later = last_here k (n + 1) rest event numbered.1 at opened in
      let is : n + 1 + k + 1 ≡ n + suc k + 1 = omega arith in
      ap (λ o. or_else o (number_if (opens thing id first) first)) later ∙ ap Some is

  -- an event that opens such a thing is the last that does, up to it
  pub last_up_to : (number : ℕ) (events : List Event) → NumberedFrom 0 events → IsAlike events (Opens thing id) number → last_named (take number events) thing id ≡ Some number
  last_up_to number events numbered alike = by (slice_get events (number - 1)) refl alike.2
    where
      by : (o : Option Event) → slice_get events (number - 1) ≡ o → role_in o ≡ Opens thing id → last_named (take number events) thing id ≡ Some number
      by None at role = cc
      by (Some event) at role =
          let positive = alike.0 in
          let place : suc (number - 1) ≡ number = omega arith in
          let is : 0 + (number - 1) + 1 ≡ number = omega arith in
          ap (λ count. last_named (take count events) thing id) (sym place)
          ∙ last_here (number - 1) 0 events event numbered at (ap (opens_under thing id) role ∙ opens_under-refl thing id)
          ∙ ap Some is
