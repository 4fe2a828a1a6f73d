-- The tests for a live cut say what a live cut is.
use Rattle.std.proofs.Common.{◌≡◌, ℕ, zero, suc, ◌-◌, Bool, true, false, ◌&&◌, cond, List, [], ◌∷◌, drop, slice_get, Option, Some, None, is_none, refl, sym, ap, subst, ◌∙◌, arith}
use Rattle.wh_events.specs.declared.event.Event.{Event}
use Rattle.wh_events.specs.declared.kind.EventKind.{EventKind}
use Rattle.wh_events.specs.declared.kind.EventKind.TheVariants.{WorkflowTaskStarted}
use Rattle.wh_events.specs.Kinds.{class_of}
use Rattle.wh_events.specs.Cuts.{is_inert_class, is_task_started_kind, is_inert, is_task_started, next_core, lets_cut, completes, is_cut, is_recorded}
use Rattle.wh_events.specs.InPlace.{IsAt}
use Rattle.wh_events.specs.Tasks.{IsLiveCut}
use Rattle.wh_events.proofs.Placing.{at_index, index_of}
use Rattle.wh_events.proofs.Cutting.{live_cut}
use Rattle.wh_split.specs.Splits.{is_live_before, is_live}
use Rattle.wh_replay.specs.Outcomes.{ends_live}
use Rattle.wh_replay.specs.Wholes.{LivePlaceIsSaid, LiveEndIsSaid}
use Rattle.wh_replay.proofs.Joining.{if_true, if_false, test_of}

pub never_both : (test : Bool) → test ≡ false → test ≡ true → ⊥
never_both true e h = cc
never_both false e h = cc

pub not_true : (test : Bool) → ¬ (test ≡ true) → test ≡ false
not_true true no_way = absurd (no_way refl)
not_true false no_way = refl

-- a started task is not inert
started_core : (kind : EventKind) → is_task_started_kind kind ≡ true → is_inert_class (class_of kind) ≡ false
started_core WorkflowTaskStarted h = refl
started_core _ h = cc

-- a cut that is not recorded has no core event after it
cut_before_none : (started : Bool) (next : Option Event) → (started && lets_cut next) ≡ true → ¬ (completes next ≡ true) → (started && is_none next) ≡ true
cut_before_none true None e n = refl
cut_before_none true (Some event) e n = absurd (n e)
cut_before_none false next e n = cc

none_before_cut : (started : Bool) (next : Option Event) → (started && is_none next) ≡ true → ((started && lets_cut next) ≡ true) × ¬ (completes next ≡ true)
none_before_cut true None e = (refl, never_both false refl)
none_before_cut true (Some event) e = cc
none_before_cut false next e = cc

started_of : (started none : Bool) → (started && none) ≡ true → (started ≡ true) × (none ≡ true)
started_of true none e = (refl, e)
started_of false none e = cc

found : (got : Option Event) (rest : List Event) → is_live_before got rest ≡ true → (event : Event) × (got ≡ Some event) × ((is_task_started event && is_none (next_core rest)) ≡ true)
found None rest e = cc
found (Some event) rest e = (event, refl, e)

-- there is no place 0
no_place : (events : List Event) → is_live events 0 ≡ true → ⊥
no_place [] e = cc
no_place (event ∷ rest) e =
    let facts = started_of (is_task_started event) (is_none (next_core (event ∷ rest))) e in
    let here : next_core (event ∷ rest) ≡ Some event = if_false (is_inert event) (next_core rest) (Some event) (started_core event.body facts.0) in
    never_both (is_none (next_core (event ∷ rest))) (ap is_none here) facts.1

live_place : (events : List Event) (k : ℕ) → is_live events (suc k) ≡ true → IsLiveCut events (suc k)
live_place events k e =
    let f = found (slice_get events (suc k - 1)) (drop (suc k) events) e in
    let at : IsAt events (suc k) f.0 = (omega arith, f.1) in
    (live_cut events (suc k) f.0 at).0 (none_before_cut (is_task_started f.0) (next_core (drop (suc k) events)) f.2)

live_at : (events : List Event) (place : ℕ) → is_live events place ≡ true → IsLiveCut events place
live_at events zero e = absurd (no_place events e)
live_at events (suc k) e = live_place events k e

at_live : (events : List Event) (place : ℕ) → IsLiveCut events place → is_live events place ≡ true
at_live events place live =
    let started = live.0 in
    let cut = (live_cut events place started.0 started.1).1 live in
    ap (λ (got : Option Event). is_live_before got (drop place events)) started.1.1
    ∙ cut_before_none (is_task_started started.0) (next_core (drop place events)) cut.0 cut.1

pub live_place_is_said : LivePlaceIsSaid
live_place_is_said events place = (live_at events place, at_live events place)

-- an event that is a cut and is not recorded, by its index
abbrev LiveIndex : List Event → Type 0
LiveIndex events = (k : ℕ) × (event : Event) × (slice_get events k ≡ Some event) × (is_cut event (drop (suc k) events) ≡ true) × (is_recorded (drop (suc k) events) ≡ false)

behind : (event : Event) (rest : List Event) → LiveIndex rest → LiveIndex (event ∷ rest)
behind event rest found = (suc found.0, found.1, found.2, found.3, found.4)

live_index : (events : List Event) → ends_live events ≡ true → LiveIndex events
live_index [] e = cc
live_index (event ∷ rest) e =
    let by_record = cond (is_recorded rest) (ends_live rest) true in
    test_of (is_cut event rest)
    (λ cut.
    let here = sym (if_true (is_cut event rest) by_record (ends_live rest) cut) ∙ e in
    test_of (is_recorded rest)
    (λ recorded. behind event rest (live_index rest (sym (if_true (is_recorded rest) (ends_live rest) true recorded) ∙ here)))
    (λ live. (zero, event, refl, cut, live)))
    (λ none. behind event rest (live_index rest (sym (if_false (is_cut event rest) by_record (ends_live rest) none) ∙ e)))

either_way : (cut recorded later : Bool) → later ≡ true → cond cut (cond recorded later true) later ≡ true
either_way true true later e = e
either_way true false later e = refl
either_way false recorded later e = e

index_live : (events : List Event) (k : ℕ) (event : Event) → slice_get events k ≡ Some event → is_cut event (drop (suc k) events) ≡ true → is_recorded (drop (suc k) events) ≡ false → ends_live events ≡ true
index_live [] k event at cut live = cc
index_live (first ∷ rest) zero event at cut live =
    let same : first ≡ event = cc in
    if_true (is_cut first rest) (cond (is_recorded rest) (ends_live rest) true) (ends_live rest) (ap (λ (e : Event). is_cut e rest) same ∙ cut)
    ∙ if_false (is_recorded rest) (ends_live rest) true live
index_live (first ∷ rest) (suc k) event at cut live = either_way (is_cut first rest) (is_recorded rest) (ends_live rest) (index_live rest k event at cut live)

pub live_end_is_said : LiveEndIsSaid
live_end_is_said events = (
  λ e.
      let found = live_index events e in
      let at = at_index events found.0 found.1 found.2 in
      (suc found.0, (live_cut events (suc found.0) found.1 at).0 (found.3, never_both (is_recorded (drop (suc found.0) events)) found.4)),
  λ there.
      let started = there.1.0 in
      let cut = (live_cut events there.0 started.0 started.1).1 there.1 in
      let k = index_of events there.0 started.0 started.1 in
      index_live events k.0 started.0 k.2 (subst (λ (n : ℕ). is_cut started.0 (drop n events) ≡ true) k.1 cut.0)
      (not_true (is_recorded (drop (suc k.0) events)) (subst (λ (n : ℕ). ¬ (is_recorded (drop n events) ≡ true)) k.1 cut.1)),
)
