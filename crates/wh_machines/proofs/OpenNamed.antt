-- In a history in place only the last thing of a kind and an id can be open.
use Rattle.std.proofs.Common.{◌≡◌, ℕ, Bool, true, false, ◌&&◌, cond, List, [], ◌∷◌, ◌++◌, Option, Some, None, is_some, is_none, refl, sym, ap, ◌∙◌, append_assoc, append-nil}
use Rattle.wh_events.specs.declared.event.Event.{Event}
use Rattle.wh_events.specs.declared.place.Thing.{Thing}
use Rattle.wh_events.specs.Kinds.{role_of}
use Rattle.wh_events.specs.Machines.{or_else, opens, closes, closed_by, is_open, open_among, open_named, last_named}
use Rattle.wh_events.specs.Places.{place_fault, fault_after, is_named, role_fault}
use Rattle.wh_machines.proofs.Histories.{number_if, last_named-push, place_none, later_none}
use Rattle.wh_machines.proofs.Placed.{accepted, id_free}
use Rattle.wh_machines.proofs.Named.{opens_under-is}

pub closed_by-push : (number : ℕ) (events : List Event) (event : Event) → closed_by number (events ++ event ∷ []) ≡ or_else (closed_by number events) (number_if (closes number event) event)
closed_by-push number [] event = refl
closed_by-push number (first ∷ rest) event = by (closes number first) (closed_by-push number rest event)
  where
    by : (b : Bool) → closed_by number (rest ++ event ∷ []) ≡ or_else (closed_by number rest) (number_if (closes number event) event) → cond b (Some first.number) (closed_by number (rest ++ event ∷ [])) ≡ or_else (cond b (Some first.number) (closed_by number rest)) (number_if (closes number event) event)
    by true later = refl
    by false later = later

closed_stays : (number : ℕ) (events : List Event) (event : Event) → is_open events number ≡ false → is_open (events ++ event ∷ []) number ≡ false
closed_stays number events event h = ap is_none (closed_by-push number events event) ∙ by (closed_by number events) h
  where
    by : (o : Option ℕ) → is_none o ≡ false → is_none (or_else o (number_if (closes number event) event)) ≡ false
    by None k = cc
    by (Some closer) k = refl

-- the number, if what its event opened is open
abbrev pub open_if : List Event → Option ℕ → Option ℕ
open_if events None = None
open_if events (Some number) = cond (is_open events number) (Some number) None

module _ (thing : Thing) (id : List ℕ) where
  -- each such thing is closed
  abbrev AllClosed : List Event → List Event → Type 0
  AllClosed events [] = Unit {0}
  AllClosed events (event ∷ rest) = (opens thing id event ≡ true → is_open events event.number ≡ false) × AllClosed events rest

  -- each such thing but the last is closed
  abbrev OlderClosed : List Event → List Event → Type 0
  OlderClosed events [] = Unit {0}
  OlderClosed events (event ∷ rest) = (opens thing id event ≡ true → is_some (last_named rest thing id) ≡ true → is_open events event.number ≡ false) × OlderClosed events rest

  all_closed : (events list : List Event) → open_among events thing id list ≡ None → AllClosed events list
  all_closed events [] h = tt
  all_closed events (event ∷ rest) h = by (opens thing id event) (is_open events event.number) (all_closed events rest) refl refl h
    where
      by : (b o : Bool) → (open_among events thing id rest ≡ None → AllClosed events rest) → opens thing id event ≡ b → is_open events event.number ≡ o → cond (b && o) (Some event.number) (open_among events thing id rest) ≡ None → AllClosed events (event ∷ rest)
      by true true later e f k = cc
      by true false later e f k = (λ _. f, later k)
      by false o later e f k = (λ opened. cc, later k)

  older_closed-push : (events list : List Event) (event : Event) → OlderClosed events list → (opens thing id event ≡ true → AllClosed events list) → OlderClosed (events ++ event ∷ []) (list ++ event ∷ [])
  older_closed-push events [] event older new = (λ opened later. cc, tt)
  older_closed-push events (first ∷ rest) event older new = (
    λ opened later. closed_stays first.number events event (by (opens thing id event) refl opened (sym (ap is_some (last_named-push thing id rest event)) ∙ later)),
    older_closed-push events rest event older.1 (λ opened. (new opened).1),
  )
    where
      by : (b : Bool) → opens thing id event ≡ b → opens thing id first ≡ true → is_some (or_else (number_if b event) (last_named rest thing id)) ≡ true → is_open events first.number ≡ false
      by true e opened later = (new e).0 opened
      by false e opened later = older.0 opened later

  -- an id is used again only where no thing under it is open
  unused_before : (before : List Event) (event : Event) → is_named thing ≡ true → place_fault before event ≡ None → opens thing id event ≡ true → open_named before thing id ≡ None
  unused_before before event named h opened =
      let role = opens_under-is thing id (role_of event.body) opened in
      id_free before thing id named (ap (role_fault before) (sym role) ∙ (accepted before event h).allowed)

  older_closed : (before events : List Event) → is_named thing ≡ true → OlderClosed before before → fault_after before events ≡ None → OlderClosed (before ++ events) (before ++ events)
  older_closed before [] named older h = rw append-nil older
  older_closed before (event ∷ rest) named older h =
      let here = place_none _ _ _ h in
      let more = older_closed-push before before event older (λ opened. all_closed before before (unused_before before event named here opened)) in
      let all = older_closed (before ++ event ∷ []) rest named more (later_none _ _ _ h) in
      rw append_assoc at all

  last_if_open : (events list : List Event) → OlderClosed events list → open_among events thing id list ≡ open_if events (last_named list thing id)
  last_if_open events [] older = refl
  last_if_open events (event ∷ rest) older = by (opens thing id event) (last_named rest thing id) (last_if_open events rest older.1) refl refl
    where
      by : (b : Bool) (last : Option ℕ) → open_among events thing id rest ≡ open_if events (last_named rest thing id) → opens thing id event ≡ b → last_named rest thing id ≡ last
          → cond (b && is_open events event.number) (Some event.number) (open_among events thing id rest) ≡ open_if events (or_else last (number_if b event))
      by true None rest_is e f = ap (cond (is_open events event.number) (Some event.number)) (rest_is ∙ ap (open_if events) f)
      by true (Some number) rest_is e f =
          let closed = older.0 e (ap is_some f) in
          ap (λ o. cond o (Some event.number) (open_among events thing id rest)) closed ∙ rest_is ∙ ap (open_if events) f
      by false None rest_is e f = rest_is ∙ ap (open_if events) f
      by false (Some number) rest_is e f = rest_is ∙ ap (open_if events) f

  pub open_named_last : (events : List Event) → is_named thing ≡ true → fault_after [] events ≡ None → open_named events thing id ≡ open_if events (last_named events thing id)
  open_named_last events named h = last_if_open events events (older_closed [] events named tt h)
