-- One more event in place changes what is kept of the things as `things_after` and `names_after` say.
use Rattle.std.proofs.Common.{◌≡◌, ℕ, ◌+◌, ◌-◌, ◌<◌, ◌≤◌, Bool, true, false, ◌&&◌, ◌||◌, cond, eqb, ltb, List, [], ◌∷◌, ◌++◌, length, Option, Some, None, is_none, option_map, slice_get, refl, sym, ap, subst, ◌∙◌, inl, inr, arith}
use Rattle.std.specs.Prelude.{IfSome}
use Rattle.std.specs.Str.{bytes_eq}
use Rattle.std.specs.Cmp.Lexicographic.{nat_list_eq_equiv}
use Rattle.std.proofs.lemmas.Bool.{eq-eqb, ne_eqb, eqb-true, eqb-false, cases_eq}
use Rattle.std.proofs.lemmas.Bool.Decides.{nat_tests}
use Rattle.std.proofs.lemmas.List.{length_push, take_at, take-append-le}
use Rattle.std.proofs.lemmas.Option.{slice_get_past}
use Rattle.wh_events.specs.declared.event.Event.{Event}
use Rattle.wh_events.specs.declared.place.Thing.{Thing}
use Rattle.wh_events.specs.declared.place.Thing.TheVariants.{Activity, Timer, Child, CancelRequest, SignalRequest}
use Rattle.wh_events.specs.declared.kind.Effect.{Effect}
use Rattle.wh_events.specs.Kinds.{Role}
use Rattle.wh_events.specs.declared.kind.Effect.TheVariants.{Starts, Cancels, Closes}
use Rattle.wh_events.specs.Kinds.Role.{Opens, Refers, CancelsChild, Plain}
use Rattle.wh_events.specs.Kinds.{role_of, closes_run_of}
use Rattle.wh_events.specs.Machines.{or_else, same_thing, opens_under, starts_number, closes_number, cancels_number, is_number, is_open, open_named, last_named, role_at, role_in}
use Rattle.wh_events.specs.Places.{place_fault, reference_fault, role_fault, fault_after, is_over, is_named}
use Rattle.wh_machines.proofs.Options.{or_else-none}
use Rattle.wh_machines.proofs.Histories.{last_named-push, fault_after-push}
use Rattle.wh_machines.specs.declared.opening.Opening.{Opening}
use Rattle.wh_machines.specs.declared.openings.Openings.{Openings}
use Rattle.wh_machines.specs.declared.names.Names.{Names}
use Rattle.wh_machines.specs.Private.Openings.{closes_test, starts_test, cancels_test, named_of, opening_with, opened_by, opening_of}
use Rattle.wh_machines.specs.Private.Changes.{new_opening, with_effect, things_after, names_after}
use Rattle.wh_machines.specs.Private.Tables.{IsTracked, IsSound, opening_in, named_in}
use Rattle.wh_machines.proofs.Placed.{accepted, reference_there, child_there, numbered_after}
use Rattle.wh_machines.specs.declared.jumps.Jump.{Jump}
use Rattle.wh_machines.specs.Private.Jumps.{IsAlike}
use Rattle.wh_machines.proofs.Jumping.{slice_get-append_left, slice_get_end, jumps_back-push}
use Rattle.wh_machines.proofs.Firsts.{first_by-push, first_by_none}
use Rattle.wh_machines.proofs.Named.{same_thing-is, both_left, last_named_role}
use Rattle.wh_machines.proofs.OpenNamed.{open_if, open_named_last}

-- ---- the ids

same_thing_sym : (a b : Thing) → same_thing a b ≡ same_thing b a
same_thing_sym Activity Activity = refl
same_thing_sym Timer Timer = refl
same_thing_sym Child Child = refl
same_thing_sym CancelRequest CancelRequest = refl
same_thing_sym SignalRequest SignalRequest = refl
same_thing_sym _ _ = refl

name_step : (role : Role) (thing : Thing) (id : List ℕ) (by : ℕ) (last : Option ℕ) (old : Thing → List ℕ → Option ℕ) → old thing id ≡ cond (is_named thing) last None
    → cond (is_named thing) (or_else (cond (opens_under thing id role) (Some by) None) last) None ≡ names_after role by old thing id
name_step (Opens other other_id) thing id by last old was =
    rw (same_thing_sym other thing, nat_list_eq_equiv.symm other_id id) (step (same_thing thing other && bytes_eq id other_id) refl)
  where
    named : (b : Bool) → old thing id ≡ cond b last None → cond b (Some by) None ≡ cond (b && true) (Some by) (old thing id)
    named true h = refl
    named false h = sym h

    step : (b : Bool) → (same_thing thing other && bytes_eq id other_id) ≡ b
        → cond (is_named thing) (or_else (cond b (Some by) None) last) None ≡ cond (is_named other && b) (Some by) (old thing id)
    step true e =
        let same = same_thing-is thing other (both_left (same_thing thing other) (bytes_eq id other_id) e) in
        named (is_named thing) was ∙ ap (λ t. cond (is_named t && true) (Some by) (old thing id)) same
    step false e = sym (unnamed (is_named other) ∙ was)
      where
        unnamed : (b : Bool) → cond (b && false) (Some by) (old thing id) ≡ old thing id
        unnamed true = refl
        unnamed false = refl
name_step (Refers other number effect) thing id by last old was = sym was
name_step (CancelsChild workflow_id) thing id by last old was = sym was
name_step Plain thing id by last old was = sym was

-- ---- the end of the run

over_push : (events : List Event) (event : Event) → is_over events ≡ false → is_over (events ++ event ∷ []) ≡ closes_run_of event.body
over_push [] event h = or_false (closes_run_of event.body)
  where
    or_false : (b : Bool) → (b || false) ≡ b
    or_false true = refl
    or_false false = refl
over_push (first ∷ rest) event h = by (closes_run_of first.body) (over_push rest event) h
  where
    by : (b : Bool) → (is_over rest ≡ false → is_over (rest ++ event ∷ []) ≡ closes_run_of event.body) → (b || is_over rest) ≡ false → (b || is_over (rest ++ event ∷ [])) ≡ closes_run_of event.body
    by true later k = cc
    by false later k = later k

-- ---- events by their places

pub past_none : (events : List Event) (number : ℕ) → length events < number → opening_of events number ≡ None
past_none events number h =
    let index : length events ≤ number - 1 = omega arith in
    let nonzero : eqb number 0 ≡ false = grind (arith, nat_tests) in
    rw (nonzero, slice_get_past events (number - 1) index) refl

-- ---- no event in place refers to a number that is still to come

module _ (number : ℕ) (before : List Event) (below : length before < number) where
  later_number : (target : ℕ) → (eqb target 0 || ltb (length before) target) ≡ false → eqb number target ≡ false
  later_number target h = grind (arith, nat_tests)

  later_target : (thing : Thing) (target : ℕ) → reference_fault before thing target ≡ None → eqb number target ≡ false
  later_target thing target h = later_number target (reference_there before thing target h)

  starts_quiet : (role : Role) → role_fault before role ≡ None → starts_number number role ≡ false
  starts_quiet (Opens thing id) h = refl
  starts_quiet (Refers thing target Starts) h = later_target thing target h
  starts_quiet (Refers thing target Cancels) h = refl
  starts_quiet (Refers thing target Closes) h = refl
  starts_quiet (CancelsChild workflow_id) h = refl
  starts_quiet Plain h = refl

  closes_quiet : (role : Role) → role_fault before role ≡ None → closes_number number role ≡ false
  closes_quiet (Opens thing id) h = refl
  closes_quiet (Refers thing target Starts) h = refl
  closes_quiet (Refers thing target Cancels) h = refl
  closes_quiet (Refers thing target Closes) h = later_target thing target h
  closes_quiet (CancelsChild workflow_id) h = refl
  closes_quiet Plain h = refl

  module _ (placed : fault_after [] before ≡ None) where
    last_below : (thing : Thing) (id : List ℕ) (o : Option ℕ) → last_named before thing id ≡ o → is_number number o ≡ false
    last_below thing id None e = refl
    last_below thing id (Some last) e =
        let role = last_named_role thing id last before (numbered_after [] before placed) e in
        let low = role.1 in
        ne_eqb number last (λ same. omega arith)

    open_below : (workflow_id : List ℕ) → is_number number (open_named before Child workflow_id) ≡ false
    open_below workflow_id =
        ap (is_number number) (open_named_last Child workflow_id before refl placed) ∙ by (last_named before Child workflow_id) refl
      where
        chosen : (b : Bool) (last : ℕ) → eqb number last ≡ false → is_number number (cond b (Some last) None) ≡ false
        chosen true last e = e
        chosen false last e = refl

        by : (o : Option ℕ) → last_named before Child workflow_id ≡ o → is_number number (open_if before o) ≡ false
        by None e = refl
        by (Some last) e = chosen (is_open before last) last (last_below Child workflow_id (Some last) e)

    cancels_quiet : (role : Role) → role_fault before role ≡ None → cancels_number before number role ≡ false
    cancels_quiet (Opens thing id) h = refl
    cancels_quiet (Refers thing target Starts) h = refl
    cancels_quiet (Refers thing target Cancels) h = later_target thing target h
    cancels_quiet (Refers thing target Closes) h = refl
    cancels_quiet (CancelsChild workflow_id) h = open_below workflow_id
    cancels_quiet Plain h = refl

-- a thing whose number is past the events is as it was opened
pub still_new : (events : List Event) (number : ℕ) (previous : Option ℕ) → fault_after [] events ≡ None → length events ≤ number → opening_with events number previous ≡ new_opening number previous
still_new events number previous placed fits =
    let starts = first_by_none (starts_test number) number (λ before event p h below. starts_quiet number before below (role_of event.body) ((accepted before event h).allowed)) [] events refl placed (omega arith) in
    let cancels = first_by_none (cancels_test number) number (λ before event p h below. cancels_quiet number before below p (role_of event.body) ((accepted before event h).allowed)) [] events refl placed (omega arith) in
    let closes = first_by_none (closes_test number) number (λ before event p h below. closes_quiet number before below (role_of event.body) ((accepted before event h).allowed)) [] events refl placed (omega arith) in
    rw (starts, cancels, closes) refl

-- ---- the things

-- the thing with each effect that an event may have on it
abbrev with_effects : Option ℕ → Option ℕ → Option ℕ → Opening → Opening
with_effects started cancelling closed opening = record {
  number = opening.number;
  started = or_else opening.started started;
  cancelling = or_else opening.cancelling cancelling;
  closed = or_else opening.closed closed;
  previous = opening.previous;
}

untouched : (o : Option Opening) → option_map (with_effects None None None) o ≡ o
untouched None = refl
untouched (Some opening) = simp or_else-none

touched_marked : (effect : Effect) (by : ℕ) (o : Option Opening)
    → option_map (with_effects (cond (starts_number 0 (Refers Timer 0 effect)) (Some by) None) (cond (cancels_number [] 0 (Refers Timer 0 effect)) (Some by) None) (cond (closes_number 0 (Refers Timer 0 effect)) (Some by) None)) o
    ≡ option_map (with_effect effect by) o
touched_marked effect by None = refl
touched_marked Starts by (Some opening) = simp or_else-none
touched_marked Cancels by (Some opening) = simp or_else-none
touched_marked Closes by (Some opening) = simp or_else-none

module _ (events : List Event) (number by : ℕ) where
  abbrev touched_by : Role → Opening → Opening
  touched_by role = with_effects (cond (starts_number number role) (Some by) None) (cond (cancels_number events number role) (Some by) None) (cond (closes_number number role) (Some by) None)

  touched-things_after : (role : Role) (names : Thing → List ℕ → Option ℕ) (old : ℕ → Option Opening) → eqb by number ≡ false
      → ((workflow_id : List ℕ) → role ≡ CancelsChild workflow_id → open_named events Child workflow_id ≡ names Child workflow_id)
      → option_map (touched_by role) (old number) ≡ things_after role by names old number
  touched-things_after (Opens thing id) names old apart child = untouched (old number) ∙ sym (ap (λ b. cond b (Some (new_opening by (names thing id))) (old number)) apart)
  touched-things_after (Refers thing target Starts) names old apart child = step (eqb number target)
    where
      step : (b : Bool) → option_map (with_effects (cond b (Some by) None) None None) (old number) ≡ cond b (option_map (with_effect Starts by) (old number)) (old number)
      step true = touched_marked Starts by (old number)
      step false = untouched (old number)
  touched-things_after (Refers thing target Cancels) names old apart child = step (eqb number target)
    where
      step : (b : Bool) → option_map (with_effects None (cond b (Some by) None) None) (old number) ≡ cond b (option_map (with_effect Cancels by) (old number)) (old number)
      step true = touched_marked Cancels by (old number)
      step false = untouched (old number)
  touched-things_after (Refers thing target Closes) names old apart child = step (eqb number target)
    where
      step : (b : Bool) → option_map (with_effects None None (cond b (Some by) None)) (old number) ≡ cond b (option_map (with_effect Closes by) (old number)) (old number)
      step true = touched_marked Closes by (old number)
      step false = untouched (old number)
  touched-things_after (CancelsChild workflow_id) names old apart child =
      rw (child workflow_id refl, apart) (step (is_number number (names Child workflow_id)))
    where
      step : (b : Bool) → option_map (with_effects None (cond b (Some by) None) None) (old number) ≡ cond b (option_map (with_effect Cancels by) (old number)) (old number)
      step true = touched_marked Cancels by (old number)
      step false = untouched (old number)
  touched-things_after Plain names old apart child = untouched (old number)

things_after-same : (role : Role) (by number : ℕ) (names other_names : Thing → List ℕ → Option ℕ) (old other_old : ℕ → Option Opening) → ((thing : Thing) (id : List ℕ) → names thing id ≡ other_names thing id) → ((k : ℕ) → old k ≡ other_old k)
    → things_after role by names old number ≡ things_after role by other_names other_old number
things_after-same (Opens thing id) by number names other_names old other_old named opened = rw (named thing id, opened number) refl
things_after-same (Refers thing target effect) by number names other_names old other_old named opened = rw (opened number) refl
things_after-same (CancelsChild workflow_id) by number names other_names old other_old named opened = rw (named Child workflow_id, opened number) refl
things_after-same Plain by number names other_names old other_old named opened = opened number

names_after-same : (role : Role) (by : ℕ) (old other_old : Thing → List ℕ → Option ℕ) → ((thing : Thing) (id : List ℕ) → old thing id ≡ other_old thing id) → (thing : Thing) (id : List ℕ) → names_after role by old thing id ≡ names_after role by other_old thing id
names_after-same (Opens other other_id) by old other_old same thing id = rw (same thing id) refl
names_after-same (Refers other target effect) by old other_old same thing id = same thing id
names_after-same (CancelsChild workflow_id) by old other_old same thing id = same thing id
names_after-same Plain by old other_old same thing id = same thing id

module _ (events : List Event) (event : Event) (placed : fault_after [] events ≡ None) (fits : place_fault events event ≡ None) where
  more_placed : fault_after [] (events ++ event ∷ []) ≡ None
  more_placed = fault_after-push [] events event placed fits

  numbered : event.number ≡ length events + 1
  numbered = (accepted events event fits).numbered

  child_named : (workflow_id : List ℕ) → role_of event.body ≡ CancelsChild workflow_id → open_named events Child workflow_id ≡ named_of events Child workflow_id
  child_named workflow_id role =
      let found = child_there events workflow_id (ap (role_fault events) (sym role) ∙ (accepted events event fits).allowed) in
      let last = open_named_last Child workflow_id events refl placed in
      last ∙ by (last_named events Child workflow_id) (sym (ap is_none last) ∙ found)
    where
      chosen : (b : Bool) (number : ℕ) → is_none (cond b (Some number) None) ≡ false → cond b (Some number) None ≡ Some number
      chosen true number h = refl
      chosen false number h = cc

      by : (o : Option ℕ) → is_none (open_if events o) ≡ false → open_if events o ≡ o
      by None h = refl
      by (Some number) h = chosen (is_open events number) number h

  opened_push : (number : ℕ) (role : Role) → number - 1 ≤ length events → opened_by (events ++ event ∷ []) number role ≡ option_map (touched_by events number event.number (role_of event.body)) (opened_by events number role)
  opened_push number (Opens thing id) low =
      let starts = first_by-push (starts_test number) [] events event in
      let cancels = first_by-push (cancels_test number) [] events event in
      let closes = first_by-push (closes_test number) [] events event in
      rw (starts, cancels, closes, take-append-le (number - 1) events (event ∷ []) low) refl
  opened_push number (CancelsChild workflow_id) low =
      let starts = first_by-push (starts_test number) [] events event in
      let cancels = first_by-push (cancels_test number) [] events event in
      let closes = first_by-push (closes_test number) [] events event in
      rw (starts, cancels, closes) refl
  opened_push number (Refers thing target effect) low = refl
  opened_push number Plain low = refl

  -- what is kept of the things before the event
  earlier_step : (number : ℕ) → eqb event.number number ≡ false → opening_of (events ++ event ∷ []) number ≡ option_map (touched_by events number event.number (role_of event.body)) (opening_of events number)
  earlier_step number apart = elim (cases_eq number 0) [
    | inl none ↦ rw (eq-eqb number 0 none) refl
    | inr nonzero ↦ by nonzero (ltb (length events) number) refl
  ]
    where
      by : (number ≡ 0 → ⊥) → (b : Bool) → ltb (length events) number ≡ b → opening_of (events ++ event ∷ []) number ≡ option_map (touched_by events number event.number (role_of event.body)) (opening_of events number)
      by nonzero true e =
          let at = numbered in
          let size = length_push events event in
          let past : length events < number = grind (arith, nat_tests) in
          let differ = eqb-false event.number number apart in
          let past_all : length (events ++ event ∷ []) < number = omega arith in
          past_none (events ++ event ∷ []) number past_all ∙ sym (ap (option_map (touched_by events number event.number (role_of event.body))) (past_none events number past))
      by nonzero false e =
          let low : number ≤ length events = grind (arith, nat_tests) in
          let index : number - 1 < length events = omega arith in
          let same = slice_get-append_left events (event ∷ []) (number - 1) index in
          rw (ne_eqb number 0 nonzero) (ap (λ o. opened_by (events ++ event ∷ []) number (role_in o)) same ∙ opened_push number (role_at events number) (omega arith))

  -- what is kept of what the event opens
  new_step : (role : Role) → role_of event.body ≡ role → opened_by (events ++ event ∷ []) event.number role ≡ things_after role event.number (named_of events) (opening_of events) event.number
  new_step (Opens thing id) is =
      let at = numbered in
      let index : length events ≡ event.number - 1 = omega arith in
      let size = length_push events event in
      let before = take_at events (event ∷ []) (event.number - 1) index in
      ap (λ list. Some (opening_with (events ++ event ∷ []) event.number (named_of list thing id))) before
      ∙ ap Some (still_new (events ++ event ∷ []) event.number (named_of events thing id) more_placed (omega arith))
      ∙ sym (ap (λ b. cond b (Some (new_opening event.number (named_of events thing id))) (opening_of events event.number)) (eq-eqb event.number event.number refl))
  new_step (Refers thing target effect) is =
      let at = numbered in
      nothing (eqb event.number target) (opening_of events event.number) (past_none events event.number (omega arith))
    where
      nothing : (b : Bool) (o : Option Opening) → o ≡ None → None ≡ cond b (option_map (with_effect effect event.number) o) o
      nothing true o h = rw h refl
      nothing false o h = sym h
  new_step (CancelsChild workflow_id) is =
      let at = numbered in
      let size = length_push events event in
      let other = last_below event.number events (omega arith) placed Child workflow_id (last_named events Child workflow_id) refl in
      ap Some (still_new (events ++ event ∷ []) event.number None more_placed (omega arith))
      ∙ sym (rw (other, eq-eqb event.number event.number refl) refl)
  new_step Plain is =
      let at = numbered in
      sym (past_none events event.number (omega arith))

  pub opening_of-push : (number : ℕ) → opening_of (events ++ event ∷ []) number ≡ things_after (role_of event.body) event.number (named_of events) (opening_of events) number
  opening_of-push number = by (eqb event.number number) refl
    where
      here : opening_of (events ++ event ∷ []) event.number ≡ opened_by (events ++ event ∷ []) event.number (role_of event.body)
      here =
          let at = numbered in
          let index : event.number - 1 ≡ length events = omega arith in
          rw (ne_eqb event.number 0 (omega arith)) (ap (λ k. opened_by (events ++ event ∷ []) event.number (role_in (slice_get (events ++ event ∷ []) k))) index
          ∙ ap (λ o. opened_by (events ++ event ∷ []) event.number (role_in o)) (slice_get_end events event))

      by : (b : Bool) → eqb event.number number ≡ b → opening_of (events ++ event ∷ []) number ≡ things_after (role_of event.body) event.number (named_of events) (opening_of events) number
      by true e =
          let same = eqb-true event.number number e in
          subst (λ n. opening_of (events ++ event ∷ []) n ≡ things_after (role_of event.body) event.number (named_of events) (opening_of events) n) same (here ∙ new_step (role_of event.body) refl)
      by false e = earlier_step number e ∙ touched-things_after events number event.number (role_of event.body) (named_of events) (opening_of events) e child_named

  pub named_of-push : (thing : Thing) (id : List ℕ) → named_of (events ++ event ∷ []) thing id ≡ names_after (role_of event.body) event.number (named_of events) thing id
  named_of-push thing id =
      ap (λ o. cond (is_named thing) o None) (last_named-push thing id events event)
      ∙ name_step (role_of event.body) thing id event.number (last_named events thing id) (named_of events) refl

  -- the tables after the event
  pub tracked_push : (role : Role) → role ≡ role_of event.body → (over : Bool) (openings new_openings : Openings) (names new_names : Names) (jumps : List Jump) (jump : Jump) → IsTracked events over openings names jumps → IsSound new_openings
      → ((number : ℕ) → opening_in new_openings number ≡ things_after role event.number (named_in names) (opening_in openings) number)
      → ((thing : Thing) (id : List ℕ) → named_in new_names thing id ≡ names_after role event.number (named_in names) thing id)
      → IfSome jump.to (IsAlike events role)
      → IsTracked (events ++ event ∷ []) (closes_run_of event.body) new_openings new_names (jumps ++ jump ∷ [])
  tracked_push role is over openings new_openings names new_names jumps jump before sound opened named alike = record {
    placed = more_placed;
    ended = sym (over_push events event (accepted events event fits).unfinished);
    sound = sound;
    opened = λ number. opened number ∙ ap (λ r. things_after r event.number (named_in names) (opening_in openings) number) is ∙ things_after-same (role_of event.body) event.number number (named_in names) (named_of events) (opening_in openings) (opening_of events) before.named before.opened ∙ sym (opening_of-push number);
    named = λ thing id. named thing id ∙ ap (λ r. names_after r event.number (named_in names) thing id) is ∙ names_after-same (role_of event.body) event.number (named_in names) (named_of events) before.named thing id ∙ sym (named_of-push thing id);
    jumping = jumps_back-push events event jumps jump before.jumping (subst (λ (r : Role). IfSome jump.to (IsAlike events r)) is alike);
  }
