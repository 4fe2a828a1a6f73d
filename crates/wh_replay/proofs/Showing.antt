-- The machines of a history in place are found by the numbers of the events that opened them.
use Rattle.std.proofs.Common.{◌≡◌, ℕ, zero, suc, ◌+◌, ◌-◌, ◌<◌, Bool, true, false, List, [], ◌∷◌, slice_get, Option, Some, None, is_some, cond, eqb, refl, ap, ◌∙◌, subst, arith}
use Rattle.std.proofs.lemmas.Bool.{eqb-true, eqb-false}
use Rattle.wh_events.specs.declared.event.Event.{Event}
use Rattle.wh_events.specs.declared.place.Status.{Status}
use Rattle.wh_events.specs.Kinds.{role_of}
use Rattle.wh_events.specs.InPlace.{IsAt}
use Rattle.wh_events.specs.Machines.{Machine, opened_thing, role_in, status_of, status_at, machines_among, machines_of}
use Rattle.wh_workflow.specs.declared.command.Command.{Command}
use Rattle.wh_workflow.specs.Law.{Program}
use Rattle.wh_workflow.specs.Scripts.{Settled}
use Rattle.wh_events.proofs.Standing.{no_fault_where_in_place}
use Rattle.wh_replay.specs.Replays.{replay_tasks}
use Rattle.wh_replay.specs.Runs.{status_in}
use Rattle.wh_replay.specs.Private.Runs.{IsRun}
use Rattle.wh_replay.proofs.Joining.{if_true, if_false}
use Rattle.wh_replay.proofs.Resuming.{run_replay, replay_parts}

same_eqb : (a b : ℕ) → a ≡ b → eqb a b ≡ true
same_eqb a b same = (elim (eqb a b) as (λ t. eqb a b ≡ t → t ≡ true) [
  | true ↦ λ e. refl
  | false ↦ λ e. absurd (eqb-false a b e same)
]) refl

other_eqb : (a b : ℕ) → (a ≡ b → ⊥) → eqb a b ≡ false
other_eqb a b other = (elim (eqb a b) as (λ t. eqb a b ≡ t → t ≡ false) [
  | true ↦ λ e. absurd (other (eqb-true a b e))
  | false ↦ λ e. refl
]) refl

-- each event's number is its place after the first
abbrev Numbered : ℕ → List Event → Type 0
Numbered first list = (k : ℕ) (event : Event) → slice_get list k ≡ Some event → event.number ≡ first + k

numbered_rest : (first : ℕ) (event : Event) (rest : List Event) → Numbered first (event ∷ rest) → Numbered (suc first) rest
numbered_rest first event rest own k later h = let w = own (suc k) later h in omega arith

-- a machine of another number, if there is one in front, is passed over
passed_over : (is : Bool) (other number : ℕ) (status : Status) (later : List Machine) → (other ≡ number → ⊥) → status_in (cond is (record { number = other; status = status } ∷ later) later) number ≡ status_in later number
passed_over true other number status later apart = if_false (eqb other number) (Some status) (status_in later number) (other_eqb other number apart)
passed_over false other number status later apart = refl

-- the machine in front, if there is one, is found
found_first : (is : Bool) (number : ℕ) (status : Status) (later : List Machine) → status_in later number ≡ None → status_in (cond is (record { number = number; status = status } ∷ later) later) number ≡ cond is (Some status) None
found_first true number status later none = if_true (eqb number number) (Some status) (status_in later number) (same_eqb number number refl)
found_first false number status later none = none

-- no machine has a number below those of its events
none_below : (events list : List Event) (first number : ℕ) → number < first → Numbered first list → status_in (machines_among events list) number ≡ None
none_below events [] first number less own = refl
none_below events (event ∷ rest) first number less own =
    let here = own zero event refl in
    passed_over (is_some (opened_thing (role_of event.body))) event.number number (status_of events event.number) (machines_among events rest) (λ same. omega (arith, here, same))
    ∙ none_below events rest (suc first) number (omega arith) (numbered_rest first event rest own)

-- the status of the thing that an event of the number opened, if there is one and it opened any
abbrev status_from : List Event → ℕ → Option Event → Option Status
status_from events number event = cond (is_some (opened_thing (role_in event))) (Some (status_of events number)) None

found_at : (events list : List Event) (first k : ℕ) → Numbered first list → status_in (machines_among events list) (first + k) ≡ status_from events (first + k) (slice_get list k)
found_at events [] first k own = refl
found_at events (event ∷ rest) first zero own =
    let here = own zero event refl in
    subst (λ n. status_in (machines_among events (event ∷ rest)) n ≡ status_from events n (Some event)) here
    (found_first (is_some (opened_thing (role_of event.body))) event.number (status_of events event.number) (machines_among events rest)
    (none_below events rest (suc first) event.number (omega (arith, here)) (numbered_rest first event rest own)))
found_at events (event ∷ rest) first (suc k) own =
    let here = own zero event refl in
    let next : suc first + k ≡ first + suc k = omega arith in
    passed_over (is_some (opened_thing (role_of event.body))) event.number (first + suc k) (status_of events event.number) (machines_among events rest) (λ same. omega (arith, here, same))
    ∙ subst (λ n. status_in (machines_among events rest) n ≡ status_from events n (slice_get rest k)) next (found_at events rest (suc first) k (numbered_rest first event rest own))

-- the machine of a number is what the event at that place opened
found : (events : List Event) → ((place : ℕ) (event : Event) → IsAt events place event → event.number ≡ place) → (number : ℕ) → 0 < number → status_in (machines_of events) number ≡ status_at events number
found events own zero positive = absurd (omega arith)
found events own (suc k) positive =
    let numbered : Numbered 1 events = λ i event h. own (1 + i) event (omega arith, ap (slice_get events) (let at : 1 + i - 1 ≡ i = omega arith in at) ∙ h) in
    let next : 1 + k ≡ suc k = omega arith in
    let place : k ≡ suc k - 1 = omega arith in
    subst (λ n. status_in (machines_of events) n ≡ status_from events n (slice_get events k)) next (found_at events events 1 k numbered)
    ∙ ap (λ n. status_from events (suc k) (slice_get events n)) place

-- so it is in a run
pub status_found : {S : Type 0} (program : Program S) (events : List Event) (state : S) (settled : Settled) (unsent : List Command) → IsRun program events state settled unsent → (number : ℕ) → 0 < number
    → status_in (machines_of events) number ≡ status_at events number
status_found program events state settled unsent run =
    let kept = run_replay program events state settled unsent (replay_tasks program events 0) refl run.gives in
    found events ((no_fault_where_in_place events).0 (replay_parts program events 0 kept.0 kept.1).0).0.numbered
