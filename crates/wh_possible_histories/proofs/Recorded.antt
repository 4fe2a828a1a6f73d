-- What becomes of the things between two cuts.
use Rattle.std.proofs.Common.{◌≡◌, ℕ, ◌+◌, ◌<◌, Bool, true, false, not, ◌&&◌, ◌||◌, cond, eqb, List, [], ◌∷◌, ◌++◌, length, Option, Some, None, refl, sym, ap, ap₂, subst, ◌∙◌, append_assoc, append-nil, arith}
use Rattle.std.specs.Prelude.{nat_eq}
use Rattle.std.proofs.lemmas.Bool.{ne_eqb, eqb-true, and_parts, not-true}
use Rattle.std.proofs.lemmas.List.{length_push}
use Rattle.wh_events.specs.declared.event.Event.{Event}
use Rattle.wh_events.specs.declared.kind.EventKind.{EventKind}
use Rattle.wh_events.specs.declared.kind.EventKind.TheVariants as kinds
use Rattle.wh_events.specs.declared.place.Thing.{Thing}
use Rattle.wh_events.specs.declared.place.Thing.TheVariants as things
use Rattle.wh_events.specs.declared.kind.Effect.TheVariants.{Closes}
use Rattle.wh_events.specs.Kinds.{role_of, class_of}
use Rattle.wh_events.specs.Kinds.Role.{Refers}
use Rattle.wh_events.specs.Cuts.{is_commanded, is_commanded_class, is_outside, is_outside_class, is_task_started, is_task_started_kind, commanded}
use Rattle.wh_events.specs.Machines.{same_thing, opens, opens_under, closes_number, open_named, last_named, cancels_number, opened_thing}
use Rattle.wh_events.specs.Places.{place_fault, fault_after, is_named, is_thing, role_fault, at_place}
use Rattle.wh_events.specs.declared.place.PlaceFault.{PlaceFault}
use Rattle.wh_machines.proofs.Histories.{place_none, later_none, fault_after-push}
use Rattle.wh_machines.proofs.Placed.{accepted, numbered_after}
use Rattle.wh_machines.proofs.Named.{last_named_role}
use Rattle.wh_workflow.specs.declared.command.Command.{Command}
use Rattle.wh_workflow.specs.declared.fault.Mismatch.TheVariants.{Different}
use Rattle.wh_workflow.specs.Names.{names, mismatch_from, mismatch}
use Rattle.wh_workflow.specs.Scripts.{ActivationContext, act_of, act_opens, act_cancels, some_act, left_open, withdrawn, is_timer, open_at, has_outside, closer_of, cancels_open, reduced}
use Rattle.wh_possible_runs.specs.declared.thing.Phase.{Phase}
use Rattle.wh_possible_runs.specs.declared.thing.Phase.TheVariants.{Absent, Open, AskedToCancel, Ended, EndTold}
use Rattle.wh_possible_runs.specs.declared.thing.Touch.{Touch}
use Rattle.wh_possible_runs.specs.declared.thing.Touch.TheVariants.{Untouched, Opened, Withdrawn, Canceled}
use Rattle.wh_possible_runs.specs.declared.thing.ThingState.{ThingState}
use Rattle.wh_possible_runs.specs.Things.{is_running, phase_after_task, is_opened, next_thing}
use Rattle.wh_possible_runs.specs.Situations.{ThingName, keep_first, next_things}
use Rattle.wh_possible_runs.specs.Shown.{phase_number}
use Rattle.wh_possible_runs.specs.Rules.{phase_by, phase_at, touch_by, touch_at, AreWell, by_rules, IsSo, AreSo}
use Rattle.wh_possible_runs.proofs.Sound.{phase_is as same_phase_is}
use Rattle.wh_possible_runs.proofs.Rules.{so, both, two, is_sound, so_then, asked, ended, sound_first, sound_on}
use Rattle.wh_possible_histories.specs.Records.{are_named, next_context, RecordsAreKept}
use Rattle.wh_possible_histories.proofs.Own.{own, mark, sends, own_reduced}
use Rattle.wh_possible_histories.proofs.Pushed.{standing_by, asked_in, asked_to, joined, some_test, standing, has_ended, phase_is, closes_last, cancels_last, opened, closed, kept, Reference, reference, outside-push}
use Rattle.wh_possible_histories.proofs.Matched.{opens_alike, cancels_alike}

-- the phase after what commands do to the thing: true opens it, false cancels it
abbrev pub apply : Bool → List Bool → Phase → Option Phase
apply timer [] phase = Some phase
apply timer (true ∷ rest) Absent = apply timer rest Open
apply timer (true ∷ rest) _ = None
apply timer (false ∷ rest) Open = apply timer rest (cond timer Absent AskedToCancel)
apply timer (false ∷ rest) AskedToCancel = apply timer rest (cond timer Absent AskedToCancel)
apply timer (false ∷ rest) _ = None

-- what kinds of events do

pub plain_opens : (thing : Thing) (id : List ℕ) (body : EventKind) → is_commanded_class (class_of body) ≡ false
    → opens_under thing id (role_of body) ≡ false
plain_opens thing id (kinds.ActivityTaskScheduled _ _) is = cc
plain_opens thing id (kinds.TimerStarted _) is = cc
plain_opens thing id (kinds.StartChildWorkflowExecutionInitiated _ _) is = cc
plain_opens thing id (kinds.SignalExternalWorkflowExecutionInitiated _ _) is = cc
plain_opens thing id _ is = refl

pub plain_cancels : (now : List Event) (number : ℕ) (body : EventKind) → is_commanded_class (class_of body) ≡ false
    → cancels_number now number (role_of body) ≡ false
plain_cancels now number (kinds.ActivityTaskCancelRequested _) is = cc
plain_cancels now number (kinds.RequestCancelExternalWorkflowExecutionInitiated _) is = cc
plain_cancels now number _ is = refl

pub outside_closes : (number : ℕ) (body : EventKind) → is_commanded_class (class_of body) ≡ false
    → closes_number number (role_of body) ≡ true → is_outside_class (class_of body) ≡ true
outside_closes number (kinds.ActivityTaskCompleted _ _) is closes = refl
outside_closes number (kinds.ActivityTaskFailed _) is closes = refl
outside_closes number (kinds.ActivityTaskTimedOut _) is closes = refl
outside_closes number (kinds.ActivityTaskCanceled _) is closes = refl
outside_closes number (kinds.TimerFired _) is closes = refl
outside_closes number (kinds.ChildWorkflowExecutionCompleted _ _) is closes = refl
outside_closes number (kinds.ChildWorkflowExecutionFailed _) is closes = refl
outside_closes number (kinds.ChildWorkflowExecutionCanceled _) is closes = refl
outside_closes number (kinds.ChildWorkflowExecutionTimedOut _) is closes = refl
outside_closes number (kinds.ChildWorkflowExecutionTerminated _) is closes = refl
outside_closes number (kinds.StartChildWorkflowExecutionFailed _) is closes = refl
outside_closes number (kinds.ExternalWorkflowExecutionCancelRequested _) is closes = refl
outside_closes number (kinds.RequestCancelExternalWorkflowExecutionFailed _) is closes = refl
outside_closes number (kinds.ExternalWorkflowExecutionSignaled _) is closes = refl
outside_closes number (kinds.SignalExternalWorkflowExecutionFailed _) is closes = refl
outside_closes number _ is closes = cc

pub commanded_closes : (number : ℕ) (body : EventKind) → is_commanded_class (class_of body) ≡ true
    → closes_number number (role_of body) ≡ true
    → (is_outside_class (class_of body) ≡ false) × (role_of body ≡ Refers things.Timer number Closes)
commanded_closes number (kinds.TimerCanceled target) is closes =
    (refl, ap (λ n. Refers things.Timer n Closes) (sym (eqb-true number target closes)))
commanded_closes number _ is closes = cc

pub starts_plainly : (body : EventKind) → is_task_started_kind body ≡ true
    → (is_commanded_class (class_of body) ≡ false) × (is_outside_class (class_of body) ≡ false)
starts_plainly kinds.WorkflowTaskStarted is = (refl, refl)
starts_plainly _ is = cc

pub timer_of : (thing : Thing) → same_thing things.Timer thing ≡ true → is_timer thing ≡ true
timer_of things.Timer is = refl
timer_of _ is = cc

pub no_test : (test : ℕ → Bool) (last : Option ℕ) → ((n : ℕ) → test n ≡ false) → some_test test last ≡ false
no_test test None off = refl
no_test test (Some n) off = off n

pub some_number : (test : ℕ → Bool) (last : Option ℕ) → some_test test last ≡ true
    → (n : ℕ) × (last ≡ Some n) × (test n ≡ true)
some_number test None is = cc
some_number test (Some n) is = (n, refl, is)

-- none of the events between has a number that is still to come
abbrev pub Fresh : List Event → List Event → Type 0
Fresh now between = (n : ℕ) → length now < n → has_outside (Some n) between ≡ false

pub fresh_more : (now between : List Event) (event : Event) → place_fault now event ≡ None → Fresh now between
    → Fresh (now ++ event ∷ []) (between ++ event ∷ [])
fresh_more now between event fits fresh n far =
    let at = (accepted now event fits).numbered in
    let size = length_push now event in
    outside-push n between event
    ∙ ap₂ (λ a b. a || (is_outside event && b)) (fresh n (omega arith)) (ne_eqb n event.number (λ same. omega arith))
    ∙ by (is_outside event)
  where
    by : (b : Bool) → (false || (b && false)) ≡ false
    by true = refl
    by false = refl

pub running_not_absent : (phase : Phase) → is_running phase ≡ true → phase ≡ Absent → ⊥
running_not_absent Absent is same = cc
running_not_absent Open is same = cc
running_not_absent AskedToCancel is same = cc
running_not_absent Ended is same = cc
running_not_absent EndTold is same = cc

pub apply_cancel : (timer : Bool) (rest : List Bool) (phase : Phase) → is_running phase ≡ true
    → apply timer (false ∷ rest) phase ≡ apply timer rest (cond timer Absent AskedToCancel)
apply_cancel timer rest Open is = refl
apply_cancel timer rest AskedToCancel is = refl
apply_cancel timer rest Absent is = cc
apply_cancel timer rest Ended is = cc
apply_cancel timer rest EndTold is = cc

pub apply_open : (timer : Bool) (rest : List Bool) (phase target : Phase) → is_running phase ≡ true
    → apply timer (true ∷ rest) phase ≡ Some target → ⊥
apply_open timer rest Open target is same = cc
apply_open timer rest AskedToCancel target is same = cc
apply_open timer rest Absent target is same = cc
apply_open timer rest Ended target is same = cc
apply_open timer rest EndTold target is same = cc

pub asked_of : (phase : Phase) → is_running phase ≡ true → asked_to phase ≡ AskedToCancel
asked_of Open is = refl
asked_of AskedToCancel is = refl
asked_of Absent is = cc
asked_of Ended is = cc
asked_of EndTold is = cc

module _ (thing : Thing) (id : List ℕ) (named : is_named thing ≡ true) (target : Phase) where
  -- how far the thing has come to what the commands left, with these commands still to be recorded
  pub data Way (now between : List Event) (commands : List Command) : Type 0 where
    going : has_ended thing id now between ≡ false
        → apply (is_timer thing) (own thing id commands) (standing thing id now) ≡ Some target → Way now between commands
    over : has_ended thing id now between ≡ true → standing thing id now ≡ Absent → own thing id commands ≡ []
        → is_running target ≡ true → Way now between commands
    lost : standing thing id now ≡ Absent → (rest : List Bool) → own thing id commands ≡ false ∷ rest → Way now between commands

  module _ (now between : List Event) (event : Event) (placed : fault_after [] now ≡ None) (fits : place_fault now event ≡ None)
      (fresh : Fresh now between) where
    abbrev after : List Event
    after = now ++ event ∷ []

    abbrev since : List Event
    since = between ++ event ∷ []

    allowed : role_fault now (role_of event.body) ≡ None
    allowed = (accepted now event fits).allowed

    here_fresh : has_outside (Some event.number) between ≡ false
    here_fresh = let at = (accepted now event fits).numbered in fresh event.number (omega arith)

    -- the event does nothing to the thing
    same_way : (commands rest : List Command) → own thing id commands ≡ own thing id rest
        → standing thing id after ≡ standing thing id now → has_ended thing id after since ≡ has_ended thing id now between
        → Way now between commands → Way after since rest
    same_way commands rest list phase end (going off is) =
        going (end ∙ off) (ap₂ (λ (l : List Bool) (p : Phase). apply (is_timer thing) l p) (sym list) phase ∙ is)
    same_way commands rest list phase end (over on is none runs) = over (end ∙ on) (phase ∙ is) (sym list ∙ none) runs
    same_way commands rest list phase end (lost is more list_is) = lost (phase ∙ is) more (sym list ∙ list_is)

    -- it opens the thing
    opens_way : (commands rest : List Command) → own thing id commands ≡ true ∷ own thing id rest → opens thing id event ≡ true
        → Way now between commands → Way after since rest
    opens_way commands rest list is (going off path) =
        let all = opened thing id now event named placed fits is in
        going (all.2 since)
        (ap (λ p. apply (is_timer thing) (own thing id rest) p) all.1
        ∙ sym (ap₂ (λ (l : List Bool) (p : Phase). apply (is_timer thing) l p) list all.0) ∙ path)
    opens_way commands rest list is (over on absent none runs) = let both = sym list ∙ none in cc
    opens_way commands rest list is (lost absent more other) = let both = sym list ∙ other in cc

    -- a command closes it
    closes_way : (commands rest : List Command) → own thing id commands ≡ false ∷ own thing id rest → is_outside event ≡ false
        → is_timer thing ≡ true → (number : ℕ) → last_named now thing id ≡ Some number
        → closes_number number (role_of event.body) ≡ true → Way now between commands → Way after since rest
    closes_way commands rest list inside timer number last is (going off path) =
        let all = closed thing id now event named placed fits number last is in
        going (all.2 between here_fresh ∙ inside)
        (ap (λ p. apply (is_timer thing) (own thing id rest) p) all.1
        ∙ sym (ap (λ t. apply (is_timer thing) (own thing id rest) (cond t Absent AskedToCancel)) timer)
        ∙ sym (apply_cancel (is_timer thing) (own thing id rest) (standing thing id now) all.0)
        ∙ sym (ap (λ (l : List Bool). apply (is_timer thing) l (standing thing id now)) list) ∙ path)
    closes_way commands rest list inside timer number last is (over on absent none runs) = let both = sym list ∙ none in cc
    closes_way commands rest list inside timer number last is (lost absent more other) =
        absurd (running_not_absent (standing thing id now) (closed thing id now event named placed fits number last is).0 absent)

    -- a command asks it to cancel
    asks_way : (commands rest : List Command) → own thing id commands ≡ false ∷ own thing id rest → is_timer thing ≡ false
        → is_running (standing thing id now) ≡ true → standing thing id after ≡ asked_to (standing thing id now)
        → has_ended thing id after since ≡ has_ended thing id now between → Way now between commands → Way after since rest
    asks_way commands rest list timer runs phase end (going off path) =
        going (end ∙ off)
        (ap (λ p. apply (is_timer thing) (own thing id rest) p) (phase ∙ asked_of (standing thing id now) runs)
        ∙ sym (ap (λ t. apply (is_timer thing) (own thing id rest) (cond t Absent AskedToCancel)) timer)
        ∙ sym (apply_cancel (is_timer thing) (own thing id rest) (standing thing id now) runs)
        ∙ sym (ap (λ (l : List Bool). apply (is_timer thing) l (standing thing id now)) list) ∙ path)
    asks_way commands rest list timer runs phase end (over on absent none runs_then) = let both = sym list ∙ none in cc
    asks_way commands rest list timer runs phase end (lost absent more other) =
        absurd (running_not_absent (standing thing id now) runs absent)

    -- it ends by itself
    ends_way : (commands : List Command) → is_outside event ≡ true → (number : ℕ) → last_named now thing id ≡ Some number
        → closes_number number (role_of event.body) ≡ true → Way now between commands → Way after since commands
    ends_way commands outside number last is (going off path) =
        let all = closed thing id now event named placed fits number last is in
        by (own thing id commands) refl path (all.2 between here_fresh ∙ outside) all.1 all.0
      where
        by : (list : List Bool) → own thing id commands ≡ list → apply (is_timer thing) list (standing thing id now) ≡ Some target
            → has_ended thing id after since ≡ true → standing thing id after ≡ Absent → is_running (standing thing id now) ≡ true
            → Way after since commands
        by [] list path end absent runs =
            let same : standing thing id now ≡ target = cc in over end absent list (ap is_running (sym same) ∙ runs)
        by (true ∷ rest) list path end absent runs = absurd (apply_open (is_timer thing) rest (standing thing id now) target runs path)
        by (false ∷ rest) list path end absent runs = lost absent rest list
    ends_way commands outside number last is (over on absent none runs) =
        absurd (running_not_absent (standing thing id now) (closed thing id now event named placed fits number last is).0 absent)
    ends_way commands outside number last is (lost absent more other) =
        absurd (running_not_absent (standing thing id now) (closed thing id now event named placed fits number last is).0 absent)

    abbrev X : Bool
    X = closes_last thing id now event named placed fits

    abbrev K : Bool
    K = cancels_last thing id now event named placed fits

    -- an event that no command made
    plain_way : (commands : List Command) → is_commanded event ≡ false → Way now between commands → Way after since commands
    plain_way commands inside way = by X refl
      where
        out : opens thing id event ≡ false
        out = plain_opens thing id event.body inside

        by : (x : Bool) → X ≡ x → Way after since commands
        by true p =
            let found = some_number (λ n. closes_number n (role_of event.body)) (last_named now thing id) p in
            ends_way commands (outside_closes found.0 event.body inside found.2) found.0 found.1 found.2 way
        by false p =
            let all = kept thing id now event named placed fits out p in
            let none : K ≡ false =
            ap (λ b. not (is_timer thing) && b)
            (no_test (λ n. cancels_number now n (role_of event.body)) (last_named now thing id) (λ n. plain_cancels now n event.body inside))
            ∙ flat (is_timer thing) in
            same_way commands commands refl
            (all.0 ∙ ap (λ b. cond b (asked_to (standing thing id now)) (standing thing id now)) none) (all.2 between) way
          where
            flat : (t : Bool) → (not t && false) ≡ false
            flat true = refl
            flat false = refl

    -- an event that the next command made
    commanded_way : (more : List Event) (command : Command) (rest : List Command) → is_commanded event ≡ true
        → names (now ++ more) command event.body ≡ true → Way now between (command ∷ rest) → Way after since rest
    commanded_way more command rest inside alike way = by (opens thing id event) refl
      where
        o_is : act_opens thing id (act_of command) ≡ opens thing id event
        o_is = opens_alike thing id (now ++ more) command event.body named alike

        k_is : act_cancels thing id (act_of command) ≡ (X || K)
        k_is = cancels_alike thing id now named placed more command event.body alike allowed

        list_by : (o k : Bool) → opens thing id event ≡ o → (X || K) ≡ k
            → own thing id (command ∷ rest) ≡ mark o k (own thing id rest)
        list_by o k p q = ap₂ (λ a b. mark a b (own thing id rest)) (o_is ∙ p) (k_is ∙ q)

        not_timer : (t b : Bool) → (not t && b) ≡ true → t ≡ false
        not_timer true b is = cc
        not_timer false b is = refl

        by_cancel : (k : Bool) → K ≡ k → opens thing id event ≡ false → X ≡ false → Way after since rest
        by_cancel true q out p =
            let all = kept thing id now event named placed fits out p in
            asks_way (command ∷ rest) rest (list_by false true out (ap₂ (λ a b. a || b) p q))
            (not_timer (is_timer thing) (some_test (λ n. cancels_number now n (role_of event.body)) (last_named now thing id)) q)
            (all.1 q) (all.0 ∙ ap (λ b. cond b (asked_to (standing thing id now)) (standing thing id now)) q) (all.2 between) way
        by_cancel false q out p =
            let all = kept thing id now event named placed fits out p in
            same_way (command ∷ rest) rest (list_by false false out (ap₂ (λ a b. a || b) p q))
            (all.0 ∙ ap (λ b. cond b (asked_to (standing thing id now)) (standing thing id now)) q) (all.2 between) way

        by_close : (x : Bool) → X ≡ x → opens thing id event ≡ false → Way after since rest
        by_close true p out =
            let found = some_number (λ n. closes_number n (role_of event.body)) (last_named now thing id) p in
            let what = commanded_closes found.0 event.body inside found.2 in
            let there : Reference now things.Timer found.0 =
            reference now things.Timer found.0 (ap (role_fault now) (sym what.1) ∙ allowed) in
            let role = last_named_role thing id found.0 now (numbered_after [] now placed) found.1 in
            let timer : is_timer thing ≡ true =
            timer_of thing (sym (ap (λ r. is_thing things.Timer (opened_thing r)) role.2) ∙ there.kind) in
            closes_way (command ∷ rest) rest (list_by false true out (ap (λ a. a || K) p)) what.0 timer found.0 found.1 found.2 way
        by_close false p out = by_cancel K refl out p

        by : (o : Bool) → opens thing id event ≡ o → Way after since rest
        by true p = opens_way (command ∷ rest) rest (ap (λ a. mark a (act_cancels thing id (act_of command)) (own thing id rest)) (o_is ∙ p)) p way
        by false p = by_close X refl p

  -- along the events since a cut
  walk : (history tail : List Event) (index : ℕ) (rest now between : List Event) (commands : List Command)
      → fault_after [] now ≡ None → fault_after now rest ≡ None → Fresh now between → history ≡ now ++ (rest ++ tail)
      → mismatch_from history index commands (commanded rest) ≡ None → Way now between commands
      → Way (now ++ rest) (between ++ rest) []
  walk history tail index [] now between [] placed fits fresh is match way =
      subst (λ l. Way l (between ++ []) []) (sym (append-nil now)) (subst (λ l. Way now l []) (sym (append-nil between)) way)
  walk history tail index [] now between (command ∷ commands) placed fits fresh is match way = cc
  walk history tail index (event ∷ rest) now between commands placed fits fresh is match way =
      by (λ index commands match way.
      walk history tail index rest (now ++ event ∷ []) (between ++ event ∷ []) commands
      (fault_after-push [] now event placed here) (later_none _ _ _ fits) (fresh_more now between event here fresh) history_is match way)
      (is_commanded event) refl commands match way
    where
      here : place_fault now event ≡ None
      here = place_none _ _ _ fits

      history_is : history ≡ (now ++ event ∷ []) ++ (rest ++ tail)
      history_is = is ∙ sym (append_assoc now (event ∷ []) (rest ++ tail))

      Further : Type 0
      Further = (index : ℕ) (commands : List Command) → mismatch_from history index commands (commanded rest) ≡ None
          → Way (now ++ event ∷ []) (between ++ event ∷ []) commands
          → Way ((now ++ event ∷ []) ++ rest) ((between ++ event ∷ []) ++ rest) []

      on : Further → (index : ℕ) (commands : List Command) → mismatch_from history index commands (commanded rest) ≡ None
          → Way (now ++ event ∷ []) (between ++ event ∷ []) commands → Way (now ++ event ∷ rest) (between ++ event ∷ rest) []
      on further index commands match way =
          subst (λ l. Way l (between ++ event ∷ rest) []) (append_assoc now (event ∷ []) rest)
          (subst (λ l. Way ((now ++ event ∷ []) ++ rest) l []) (append_assoc between (event ∷ []) rest)
          (further index commands match way))

      by_names : Further → (t : Bool) (command : Command) (commands : List Command) (index : ℕ) → is_commanded event ≡ true
          → names history command event.body ≡ t
          → cond t (mismatch_from history (index + 1) commands (commanded rest)) (Some (Different event.number)) ≡ None
          → Way now between (command ∷ commands) → Way (now ++ event ∷ rest) (between ++ event ∷ rest) []
      by_names further true command commands index inside alike match way =
          on further (index + 1) commands match
          (commanded_way now between event placed here fresh (event ∷ (rest ++ tail)) command commands inside
          (subst (λ l. names l command event.body ≡ true) is alike) way)
      by_names further false command commands index inside alike match way = cc

      by : Further → (t : Bool) → is_commanded event ≡ t → (commands : List Command)
          → mismatch_from history index commands (cond t (event ∷ commanded rest) (commanded rest)) ≡ None
          → Way now between commands → Way (now ++ event ∷ rest) (between ++ event ∷ rest) []
      by further true p [] match way = cc
      by further true p (command ∷ commands) match way =
          by_names further (names history command event.body) command commands index p refl match way
      by further false p commands match way =
          on further index commands match (plain_way now between event placed here fresh commands p way)

-- the commands begin where the thing is at the cut

abbrev is_same : Option Phase → Phase → Bool
is_same None target = false
is_same (Some phase) target = nat_eq (phase_number target) (phase_number phase)

same_is : (found : Option Phase) (target : Phase) → is_same found target ≡ true → found ≡ Some target
same_is None target is = cc
same_is (Some phase) target is = ap Some (same_phase_is target phase is)

abbrev begins : Thing → Bool → Bool → Bool → Bool → Bool → Bool → Bool → Bool
begins thing here asked ended opened canceled left gone =
    so (is_sound (is_timer thing) here asked ended opened canceled left gone)
    (is_same (apply (is_timer thing) (sends here canceled left) (standing_by (is_timer thing) here asked))
    (phase_after_task thing (phase_by (is_timer thing) here asked ended) (touch_by here left gone canceled)))

abbrev begins_ever : Thing → Bool
begins_ever thing =
    two (λ a. two (λ b. two (λ c. two (λ d. two (λ e. two (λ f. two (λ g. begins thing a b c d e f g)))))))

begins_all : (thing : Thing) → begins_ever thing ≡ true
begins_all things.Activity = refl
begins_all things.Timer = refl
begins_all things.Child = refl
begins_all things.CancelRequest = refl
begins_all things.SignalRequest = refl

begins_so : (thing : Thing) (a b c d e f g : Bool) → begins thing a b c d e f g ≡ true
begins_so thing a b c d e f g =
    both (λ g. begins thing a b c d e f g)
    (both (λ f. two (λ g. begins thing a b c d e f g))
    (both (λ e. two (λ f. two (λ g. begins thing a b c d e f g)))
    (both (λ d. two (λ e. two (λ f. two (λ g. begins thing a b c d e f g))))
    (both (λ c. two (λ d. two (λ e. two (λ f. two (λ g. begins thing a b c d e f g)))))
    (both (λ b. two (λ c. two (λ d. two (λ e. two (λ f. two (λ g. begins thing a b c d e f g))))))
    (both (λ a. two (λ b. two (λ c. two (λ d. two (λ e. two (λ f. two (λ g. begins thing a b c d e f g)))))))
    (begins_all thing) a) b) c) d) e) f) g

pub rules_left : (thing : Thing) (phase : Phase) (touch : Touch) → phase_after_task thing phase touch ≡ phase_after_task thing (by_rules phase) touch
rules_left thing Ended Untouched = refl
rules_left thing Ended Opened = refl
rules_left thing Ended Withdrawn = refl
rules_left thing Ended Canceled = refl
rules_left thing Absent touch = refl
rules_left thing Open touch = refl
rules_left thing AskedToCancel touch = refl
rules_left thing EndTold touch = refl

pub left_rules : (thing : Thing) (phase : Phase) (touch : Touch) → by_rules (phase_after_task thing phase touch) ≡ phase_after_task thing phase touch
left_rules thing phase Opened = refl
left_rules thing phase Withdrawn = refl
left_rules thing Open Canceled = by (is_timer thing)
  where
    by : (t : Bool) → by_rules (cond t Absent AskedToCancel) ≡ cond t Absent AskedToCancel
    by true = refl
    by false = refl
left_rules thing Absent Canceled = refl
left_rules thing AskedToCancel Canceled = refl
left_rules thing Ended Canceled = refl
left_rules thing EndTold Canceled = refl
left_rules thing Absent Untouched = refl
left_rules thing Open Untouched = refl
left_rules thing AskedToCancel Untouched = refl
left_rules thing Ended Untouched = refl
left_rules thing EndTold Untouched = refl

pub joined_off : (phase : Phase) → joined phase false ≡ phase
joined_off Absent = refl
joined_off Open = refl
joined_off AskedToCancel = refl
joined_off Ended = refl
joined_off EndTold = refl

pub untouched_first : (here : Bool) → Untouched ≡ touch_by here false false false
untouched_first true = refl
untouched_first false = refl

pub none_between : (closer : Option ℕ) → has_outside closer [] ≡ false
none_between None = refl
none_between (Some n) = refl

pub not_outside : (closer : Option ℕ) (between : List Event) (event : Event) → is_outside event ≡ false
    → has_outside closer (between ++ event ∷ []) ≡ has_outside closer between
not_outside None between event is = refl
not_outside (Some n) between event is =
    outside-push n between event ∙ ap (λ b. has_outside (Some n) between || (b && eqb n event.number)) is
    ∙ by (has_outside (Some n) between)
  where
    by : (b : Bool) → (b || false) ≡ b
    by true = refl
    by false = refl

pub placed_first : (before events : List Event) → fault_after [] before ≡ None → fault_after [] (before ++ events) ≡ None → fault_after before events ≡ None
placed_first before events placed all = from [] before events all
  where
    from : (start before events : List Event) → fault_after start (before ++ events) ≡ None → fault_after (start ++ before) events ≡ None
    from start [] events all = subst (λ l. fault_after l events ≡ None) (sym (append-nil start)) all
    from start (event ∷ before) events all =
        subst (λ l. fault_after l events ≡ None) (append_assoc start (event ∷ []) before)
        (from (start ++ event ∷ []) before events (later_none _ _ _ all))

pub placed_left : (start before events : List Event) → fault_after start (before ++ events) ≡ None → fault_after start before ≡ None
placed_left start [] events all = refl
placed_left start (event ∷ before) events all =
    both_placed (length start + 1) (place_fault start event) (fault_after (start ++ event ∷ []) before)
    (place_none _ _ _ all) (placed_left (start ++ event ∷ []) before events (later_none _ _ _ all))
  where
    both_placed : (place : ℕ) (o : Option PlaceFault) (later : Option (ℕ × PlaceFault)) → o ≡ None → later ≡ None → at_place place o later ≡ None
    both_placed place None later first second = second
    both_placed place (Some fault) later first second = cc

module _ (context : ActivationContext) (issued : List Command) (since : List Event) (cut : Event) (more : List Event)
    (recorded : Option (List Event)) (placed : fault_after [] ((context.seen ++ since) ++ cut ∷ []) ≡ None)
    (started : is_task_started cut ≡ true) (wells : AreWell context [] issued)
    (match : mismatch ((context.seen ++ since) ++ more) (reduced context issued) (commanded since) ≡ None) where
  pub since_placed : fault_after [] (context.seen ++ since) ≡ None
  since_placed = placed_left [] (context.seen ++ since) (cut ∷ []) placed

  pub seen_placed : fault_after [] context.seen ≡ None
  seen_placed = placed_left [] context.seen since since_placed

  pub cut_fits : place_fault (context.seen ++ since) cut ≡ None
  cut_fits = place_none _ _ _ (placed_first (context.seen ++ since) (cut ∷ []) since_placed placed)

  abbrev pub next : ActivationContext
  next = next_context context since cut recorded

  module _ (thing : Thing) (id : List ℕ) (named : is_named thing ≡ true) where
    abbrev pub target : Phase
    target = phase_after_task thing (phase_at context thing id) (touch_at context issued thing id)

    pub asked_same : (o : Option ℕ) → asked_in context.seen o ≡ cancels_open context o
    asked_same None = refl
    asked_same (Some n) = refl

    pub begin : (has_ended thing id context.seen [] ≡ false)
        × (apply (is_timer thing) (own thing id (reduced context issued)) (standing thing id context.seen) ≡ Some target)
    begin = (
      none_between (closer_of context.seen (last_named context.seen thing id)),
      ap₂ (λ (l : List Bool) (p : Phase). apply (is_timer thing) l p) (own_reduced context thing id issued wells)
          (ap (λ b. standing_by (is_timer thing) (open_at context thing id) b) (asked_same (open_named context.seen thing id)))
          ∙ same_is _ _
          (so_then _ _
          (begins_so thing (open_at context thing id) (asked context thing id) (ended context thing id) (some_act (act_opens thing id) issued)
          (some_act (act_cancels thing id) issued) (left_open thing id issued) (withdrawn thing id issued))
          (sound_on context thing id [] issued (sound_first context thing id) wells)),
    )

    through : Way thing id named target (context.seen ++ since) since []
    through =
        walk thing id named target ((context.seen ++ since) ++ more) more 1 since context.seen [] (reduced context issued) seen_placed
        (placed_first context.seen since seen_placed since_placed) (λ n far. refl) (append_assoc context.seen since more) match (going begin.0 begin.1)

    pub inside : (is_commanded cut ≡ false) × (is_outside cut ≡ false)
    inside = starts_plainly cut.body started

    arrived : Way thing id named target ((context.seen ++ since) ++ cut ∷ []) (since ++ cut ∷ []) []
    arrived = plain_way thing id named target (context.seen ++ since) since cut since_placed cut_fits fresh [] inside.0 through
      where
        fresh : Fresh (context.seen ++ since) since
        fresh = fresh_all context.seen [] since (placed_first context.seen since seen_placed since_placed) (λ n far. refl)
          where
            fresh_all : (now between rest : List Event) → fault_after now rest ≡ None → Fresh now between → Fresh (now ++ rest) (between ++ rest)
            fresh_all now between [] fits fresh = rw (append-nil, append-nil) fresh
            fresh_all now between (event ∷ rest) fits fresh =
                subst (λ l. Fresh l (between ++ event ∷ rest)) (append_assoc now (event ∷ []) rest)
                (subst (λ l. Fresh ((now ++ event ∷ []) ++ rest) l) (append_assoc between (event ∷ []) rest)
                (fresh_all (now ++ event ∷ []) (between ++ event ∷ []) rest (later_none _ _ _ fits)
                (fresh_more now between event (place_none _ _ _ fits) fresh)))

    -- what the thing is at the next cut
    abbrev pub Next : ThingState → Type 0
    Next one =
        (flag : Bool) × (later : ThingState) × (next_thing flag thing one ≡ Some later) × IsSo next [] (thing, id) later
        × (later.phase ≡ cond flag Ended (phase_after_task thing one.phase one.touch))
        × (has_ended thing id next.seen (since ++ cut ∷ []) ≡ flag)
        × (later.started ≡ true → (one.started ≡ true) × (is_opened one.touch ≡ false))

    pub next_by : (one : ThingState) → IsSo context issued (thing, id) one → Next one
    next_by one is = by arrived
      where
        target_is : phase_after_task thing one.phase one.touch ≡ target
        target_is =
            rules_left thing one.phase one.touch ∙ ap₂ (λ (p : Phase) (t : Touch). phase_after_task thing p t) is.0 is.1

        starts_so : (is_running (phase_after_task thing one.phase one.touch) && (one.started && not (is_opened one.touch))) ≡ true
            → (one.started ≡ true) × (is_opened one.touch ≡ false)
        starts_so is =
            let outer = and_parts (is_running (phase_after_task thing one.phase one.touch)) (one.started && not (is_opened one.touch)) is in
            let inner = and_parts one.started (not (is_opened one.touch)) outer.1 in
            (inner.0, not-true (is_opened one.touch) inner.1)

        end_is : has_ended thing id next.seen (since ++ cut ∷ []) ≡ has_ended thing id next.seen since
        end_is = not_outside (closer_of next.seen (last_named next.seen thing id)) since cut inside.1

        by : Way thing id named target ((context.seen ++ since) ++ cut ∷ []) (since ++ cut ∷ []) [] → Next one
        by (going off path) =
            let there : standing thing id next.seen ≡ target = cc in (
              false,
              record {
                phase = phase_after_task thing one.phase one.touch;
                touch = Untouched;
                started = is_running (phase_after_task thing one.phase one.touch) && (one.started && not (is_opened one.touch));
              },
              refl,
              (
                left_rules thing one.phase one.touch ∙ target_is ∙ sym there ∙ sym (joined_off (standing thing id next.seen))
                    ∙ sym (ap (λ b. joined (standing thing id next.seen) b) (sym end_is ∙ off)) ∙ sym (phase_is thing id next),
                untouched_first (open_at next thing id),
              ),
              refl,
              off,
              starts_so,
            )
        by (over on absent none runs) = (
          true,
          record { phase = Ended; touch = Untouched; started = is_running (phase_after_task thing one.phase one.touch) && (one.started && not (is_opened one.touch)) },
          ap (λ (b : Bool). let later : Option ThingState = elim b [
            | true ↦ Some (record { phase = Ended; touch = Untouched; started = is_running (phase_after_task thing one.phase one.touch) && (one.started && not (is_opened one.touch)) })
            | false ↦ None
          ] in later) (ap is_running target_is ∙ runs),
          (
            sym (ap (λ p. joined p true) absent) ∙ sym (ap (λ b. joined (standing thing id next.seen) b) (sym end_is ∙ on)) ∙ sym (phase_is thing id next),
            untouched_first (open_at next thing id),
          ),
          refl,
          on,
          starts_so,
        )
        by (lost absent rest other) = cc

  all_next : (names : List ThingName) (list : List ThingState) → are_named names ≡ true → AreSo context issued names list
      → (ended : List Bool) × (later : List ThingState) × (next_things names ended list ≡ Some later) × AreSo next [] names later
  all_next [] [] named are = ([], [], refl, tt)
  all_next [] (one ∷ rest) named are = absurd are
  all_next (name ∷ names) [] named are = absurd are
  all_next (name ∷ names) (one ∷ rest) named are =
      let parts = and_parts (is_named name.0) (are_named names) named in
      let first = next_by name.0 name.1 parts.0 one are.0 in
      let others = all_next names rest parts.1 are.1 in (
        first.0 ∷ others.0,
        first.1 ∷ others.1,
        by first.0 (next_thing first.0 name.0 one) others.0 first.1 others.1 first.2 others.2,
        (first.3, others.3),
      )
    where
      by : (flag : Bool) (found : Option ThingState) (flags : List Bool) (head : ThingState) (tail : List ThingState)
          → found ≡ Some head → next_things names flags rest ≡ Some tail
          → ◌≡◌ {A = Option (List ThingState)} (elim found [ Some one ↦ keep_first one (next_things names flags rest) | None ↦ None ]) (Some (head ∷ tail))
      by flag None flags head tail p q = cc
      by flag (Some other) flags head tail p q =
          rw q (let same : other ≡ head = cc in ap (λ (x : ThingState). Some (x ∷ tail)) same)

pub kept_so : RecordsAreKept
kept_so context issued since cut more recorded names list placed started wells match named are =
    all_next context issued since cut more recorded placed started wells match names list named are
