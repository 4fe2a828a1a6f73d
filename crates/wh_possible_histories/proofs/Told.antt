-- What the events between two cuts tell of a thing.
use Rattle.std.proofs.Common.{◌≡◌, ℕ, ◌+◌, ◌-◌, Bool, true, false, not, ◌&&◌, ◌||◌, cond, eqb, List, [], ◌∷◌, ◌++◌, length, Option, Some, None, refl, sym, ap, ap₂, subst, ◌∙◌, append_assoc, append-nil, arith}
use Rattle.std.proofs.lemmas.Bool.{ne_eqb, both_ways, eq-eqb, eqb-true, and_parts, and_from, not-true}
use Rattle.wh_events.specs.declared.event.Event.{Event}
use Rattle.wh_events.specs.declared.kind.Effect.TheVariants.{Starts}
use Rattle.wh_events.specs.declared.kind.EventKind.{EventKind}
use Rattle.wh_events.specs.declared.kind.EventKind.TheVariants as kinds
use Rattle.wh_events.specs.declared.place.Thing.{Thing}
use Rattle.wh_events.specs.declared.place.Thing.TheVariants as things
use Rattle.wh_events.specs.Kinds.{Role, role_of, class_of}
use Rattle.wh_events.specs.Kinds.Role.{Opens, Refers, CancelsChild, Plain}
use Rattle.wh_events.specs.Cuts.{is_commanded, is_outside, is_outside_class, commanded}
use Rattle.wh_events.specs.Machines.{same_thing, opens, opens_under, closes_number, last_named, cancels_number, opened_thing, opened_id, role_at, role_in, is_open, is_started, starts_number, or_else}
use Rattle.wh_events.specs.Places.{place_fault, fault_after, is_named, is_thing, role_fault, reference_fault}
use Rattle.wh_events.proofs.Placing.{same_decides}
use Rattle.wh_machines.proofs.Histories.{number_if, last_named-push, place_none, later_none, fault_after-push}
use Rattle.wh_machines.proofs.Placed.{accepted, numbered_after}
use Rattle.wh_machines.proofs.Named.{last_named_role}
use Rattle.wh_machines.proofs.Jumping.{slice_get-append_left}
use Rattle.wh_workflow.specs.declared.command.Command.{Command}
use Rattle.wh_workflow.specs.declared.fault.Mismatch.TheVariants.{Different}
use Rattle.wh_workflow.specs.declared.job.Job.{Job}
use Rattle.wh_workflow.specs.declared.job.Job.TheVariants as jobs
use Rattle.wh_workflow.specs.declared.job.ActivityEnd.TheVariants as ends
use Rattle.wh_workflow.specs.declared.job.ChildEnd.TheVariants as child_ends
use Rattle.wh_workflow.specs.Jobs.{id_at, outside_job, jobs_by}
use Rattle.wh_workflow.specs.Names.{names, mismatch_from}
use Rattle.wh_workflow.specs.Scripts.{act_of, act_opens, act_cancels, is_timer, has_outside}
use Rattle.wh_possible_runs.specs.declared.thing.Phase.{Phase}
use Rattle.wh_possible_runs.specs.declared.thing.Phase.TheVariants.{Absent, Open, AskedToCancel, Ended, EndTold}
use Rattle.wh_possible_runs.specs.Things.{is_running, is_untold}
use Rattle.wh_possible_runs.specs.Situations.{ThingName, is_named as is_it}
use Rattle.wh_possible_runs.proofs.Steps.{named_swap}
use Rattle.wh_possible_histories.specs.NextTasks.{has_begun, starts_in, starts_again, start_once}
use Rattle.wh_possible_histories.specs.Tellings.{ending, starting, takes}
use Rattle.wh_possible_histories.proofs.Own.{own, mark}
use Rattle.wh_possible_histories.proofs.Pushed.{asked_to, some_test, standing, has_ended, closes_last, cancels_last, opened, closed, kept, running_is, Reference, reference}
use Rattle.wh_possible_histories.proofs.Matched.{opens_alike, cancels_alike, hit, within}
use Rattle.wh_possible_histories.proofs.Taking.{end_by, start_by}
use Rattle.wh_possible_histories.proofs.Recorded.{apply, plain_opens, plain_cancels, outside_closes, commanded_closes, timer_of, no_test, some_number, Fresh, fresh_more, running_not_absent, apply_cancel, apply_open, asked_of}

-- the step from one event to the next
pub data Step (now more : List Event) (event : Event) (commands later : List Command) : Type 0 where
  by_command : (command : Command) → is_commanded event ≡ true → commands ≡ command ∷ later
      → names (now ++ more) command event.body ≡ true → Step now more event commands later
  by_itself : is_commanded event ≡ false → commands ≡ later → Step now more event commands later

-- the events from here on, and the commands that are still to be recorded
pub record Along (history seen tail end now between rest : List Event) (commands : List Command) : Type 0 where
  pub placed : fault_after [] now ≡ None
  pub fits : fault_after now rest ≡ None
  pub fresh : Fresh now between
  pub is : history ≡ now ++ (rest ++ tail)
  pub seen_is : seen ≡ now ++ (rest ++ end)
  pub index : ℕ
  pub match : mismatch_from history index commands (commanded rest) ≡ None

abbrev pub Next : List Event → List Event → List Event → List Event → List Event → List Event → Event → List Event → List Command → Type 0
Next history seen tail end now between event rest commands =
    (later : List Command) × Step now (event ∷ (rest ++ tail)) event commands later
    × Along history seen tail end (now ++ event ∷ []) (between ++ event ∷ []) rest later

pub step_on : (history seen tail end now between : List Event) (event : Event) (rest : List Event) (commands : List Command)
    → Along history seen tail end now between (event ∷ rest) commands → Next history seen tail end now between event rest commands
step_on history seen tail end now between event rest commands along =
    by (is_commanded event) refl commands along.match
  where
    here : place_fault now event ≡ None
    here = place_none (length now + 1) (place_fault now event) (fault_after (now ++ event ∷ []) rest) along.fits

    on : (index : ℕ) (later : List Command) → mismatch_from history index later (commanded rest) ≡ None
        → Along history seen tail end (now ++ event ∷ []) (between ++ event ∷ []) rest later
    on index later match = record {
      placed = fault_after-push [] now event along.placed here;
      fits = later_none (length now + 1) (place_fault now event) (fault_after (now ++ event ∷ []) rest) along.fits;
      fresh = fresh_more now between event here along.fresh;
      is = along.is ∙ sym (append_assoc now (event ∷ []) (rest ++ tail));
      seen_is = along.seen_is ∙ sym (append_assoc now (event ∷ []) (rest ++ end));
      index = index;
      match = match;
    }

    by_names : (t : Bool) (command : Command) (later : List Command) → is_commanded event ≡ true → names history command event.body ≡ t
        → cond t (mismatch_from history (along.index + 1) later (commanded rest)) (Some (Different event.number)) ≡ None
        → Next history seen tail end now between event rest (command ∷ later)
    by_names true command later inside alike match =
        (later, by_command command inside refl (subst (λ l. names l command event.body ≡ true) along.is alike), on (along.index + 1) later match)
    by_names false command later inside alike match = cc

    by : (t : Bool) → is_commanded event ≡ t → (commands : List Command)
        → mismatch_from history along.index commands (cond t (event ∷ commanded rest) (commanded rest)) ≡ None
        → Next history seen tail end now between event rest commands
    by true p [] match = cc
    by true p (command ∷ later) match = by_names (names history command event.body) command later p refl match
    by false p commands match = (commands, by_itself p refl, on along.index commands match)

pub opens_told : (thing : Thing) (role : Role) → same_thing thing things.CancelRequest ≡ false → is_thing thing (opened_thing role) ≡ true
    → role ≡ Opens thing (opened_id role)
opens_told thing (Opens other id) told is = ap (λ kind. Opens kind id) (sym ((same_decides thing other).0 is))
opens_told thing (CancelsChild id) told is = absurd (both_ways (same_thing thing things.CancelRequest) told is)
opens_told thing (Refers _ _ _) told is = cc
opens_told thing Plain told is = cc

-- the event says that the child has started which the event of the number opened
abbrev child_starts : ℕ → EventKind → Bool
child_starts number (kinds.ChildWorkflowExecutionStarted other) = eqb number other
child_starts number _ = false

-- it starts what is open, and neither opens nor closes anything
record StartsChild (now : List Event) (number : ℕ) (body : EventKind) : Type 0 where
  found : is_open now number ≡ true
  kind : is_thing things.Child (opened_thing (role_at now number)) ≡ true
  role : role_of body ≡ Refers things.Child number Starts

starts_child : (now : List Event) (number : ℕ) (body : EventKind) → child_starts number body ≡ true → role_fault now (role_of body) ≡ None
    → StartsChild now number body
starts_child now number (kinds.ChildWorkflowExecutionStarted other) is fits =
    let same : number ≡ other = eqb-true number other is in
    let there : Reference now things.Child other = reference now things.Child other fits in record {
      found = subst (λ n. is_open now n ≡ true) (sym same) there.found;
      kind = subst (λ n. is_thing things.Child (opened_thing (role_at now n)) ≡ true) (sym same) there.kind;
      role = ap (λ n. Refers things.Child n Starts) (sym same);
    }
starts_child now number _ is fits = cc

started-push : (number : ℕ) (events : List Event) (event : Event)
    → is_started (events ++ event ∷ []) number ≡ (is_started events number || starts_number number (role_of event.body))
started-push number [] event = by (starts_number number (role_of event.body))
  where
    by : (b : Bool) → (b || false) ≡ (false || b)
    by true = refl
    by false = refl
started-push number (first ∷ rest) event =
    ap (λ b. starts_number number (role_of first.body) || b) (started-push number rest event)
    ∙ by (starts_number number (role_of first.body)) (is_started rest number) (starts_number number (role_of event.body))
  where
    by : (a b c : Bool) → (a || (b || c)) ≡ ((a || b) || c)
    by true b c = refl
    by false b c = refl

abbrev pub has_true : List Bool → Bool
has_true [] = false
has_true (one ∷ rest) = one || has_true rest

-- from a running thing that is no timer, commands open nothing, and leave it running
runs_on : (list : List Bool) (phase target : Phase) → is_running phase ≡ true → apply false list phase ≡ Some target
    → (has_true list ≡ false) × (is_running target ≡ true)
runs_on [] phase target runs path = let same : phase ≡ target = cc in (refl, ap is_running (sym same) ∙ runs)
runs_on (true ∷ rest) phase target runs path = absurd (apply_open false rest phase target runs path)
runs_on (false ∷ rest) phase target runs path =
    runs_on rest AskedToCancel target refl (sym (apply_cancel false rest phase runs) ∙ path)

module _ (thing : Thing) (id : List ℕ) (named : is_named thing ≡ true) where
  abbrev pub name : ThingName
  name = (thing, id)

  -- what is left to tell after an event that ends the thing, or says that it has started
  abbrev left_to_tell : Bool → Bool → Bool → Phase → List Job → Bool
  left_to_tell closes starts started phase list =
      elim closes [
        | true ↦ is_untold phase && takes name EndTold started list
        | false ↦ elim starts [
          | true ↦ ((is_running phase || is_untold phase) && not started) && takes name phase true list
          | false ↦ takes name phase started list
        ]
      ]

  -- what the jobs of an event leave to be told
  abbrev Tells : Bool → Bool → Bool → Phase → List Job → List Job → Type 0
  Tells closes starts started phase here list =
      takes name phase started (here ++ list) ≡ left_to_tell closes starts started phase list

  module _ (now more : List Event) (placed : fault_after [] now ≡ None) where
    abbrev last : Option ℕ
    last = last_named now thing id

    abbrev none : ℕ → Bool
    none n = false

    off_by : (started : Bool) (test : ℕ → Bool) (outside : Bool) (phase : Phase) (list : List Job) → some_test test last ≡ false
        → takes name phase started list ≡ left_to_tell (some_test test last && outside) (some_test none last) started phase list
    off_by started test outside phase list off =
        sym (ap₂ (λ (a b : Bool). left_to_tell (a && outside) b started phase list) off (no_test none last (λ n. refl)))

    inside_by : (started : Bool) (test : ℕ → Bool) (phase : Phase) (list : List Job)
        → takes name phase started list ≡ left_to_tell (some_test test last && false) (some_test none last) started phase list
    inside_by started test phase list =
        by (some_test test last) ∙ sym (ap (λ b. left_to_tell (some_test test last && false) b started phase list) (no_test none last (λ n. refl)))
      where
        by : (b : Bool) → takes name phase started list ≡ left_to_tell (b && false) false started phase list
        by true = refl
        by false = refl

    -- the name of what a reference names
    hits : (kind : Thing) (number : ℕ) → same_thing kind things.CancelRequest ≡ false → reference_fault now kind number ≡ None
        → is_it kind (id_at (now ++ more) number) name ≡ some_test (λ n. eqb n number) last
    hits kind number told fits =
        let there : Reference now kind number = reference now kind number fits in
        let low = within now number there.there in
        let same : role_at (now ++ more) number ≡ role_at now number =
        ap (λ (o : Option Event). role_in o) (slice_get-append_left now more (number - 1) (omega (arith, low.0, low.1))) in
        let role : role_at now number ≡ Opens kind (id_at (now ++ more) number) =
        opens_told kind (role_at now number) told there.kind ∙ ap (λ text. Opens kind text) (ap opened_id (sym same)) in
        sym (named_swap kind (id_at (now ++ more) number) name)
        ∙ sym (hit thing id now named placed number kind (id_at (now ++ more) number) low.0 low.1 role there.found)

    -- the end of a thing
    ends_by : (started : Bool) (kind : Thing) (number : ℕ) (job : Job) (phase : Phase) (list : List Job) → same_thing kind things.CancelRequest ≡ false
        → reference_fault now kind number ≡ None → ending job ≡ Some (kind, id_at (now ++ more) number) → starting job ≡ None
        → Tells (some_test (λ n. eqb n number) last && true) (some_test none last) started phase (job ∷ []) list
    ends_by started kind number job phase list told fits is off =
        end_by job list kind (id_at (now ++ more) number) is off name phase started (some_test (λ n. eqb n number) last) (hits kind number told fits)
        ∙ by (some_test (λ n. eqb n number) last)
        ∙ sym (ap (λ b. left_to_tell (some_test (λ n. eqb n number) last && true) b started phase list) (no_test none last (λ n. refl)))
      where
        by : (b : Bool) → ◌≡◌ {A = Bool} (elim b [ true ↦ is_untold phase && takes name EndTold started list | false ↦ takes name phase started list ])
            (left_to_tell (b && true) false started phase list)
        by true = refl
        by false = refl

    -- what closes a request closes no such thing
    no_request : (kind : Thing) (number : ℕ) → is_named kind ≡ false → reference_fault now kind number ≡ None
        → some_test (λ n. eqb n number) last ≡ false
    no_request kind number other fits = by last refl
      where
        there : Reference now kind number
        there = reference now kind number fits

        by : (o : Option ℕ) → last_named now thing id ≡ o → some_test (λ n. eqb n number) o ≡ false
        by None p = refl
        by (Some n) p =
            ne_eqb n number (λ same.
            let role : role_at now n ≡ Opens thing id = (last_named_role thing id n now (numbered_after [] now placed) p).2 in
            let kind_is : is_thing kind (opened_thing (role_at now n)) ≡ true = ap (λ k. is_thing kind (opened_thing (role_at now k))) same ∙ there.kind in
            let mine : same_thing kind thing ≡ true = sym (ap (λ r. is_thing kind (opened_thing r)) role) ∙ kind_is in
            both_ways (is_named kind) other (ap is_named ((same_decides kind thing).0 mine) ∙ named))

    -- what the jobs of an event tell
    pub tells : (started : Bool) (body : EventKind) (phase : Phase) (list : List Job) → role_fault now (role_of body) ≡ None
        → Tells (some_test (λ n. closes_number n (role_of body)) last && is_outside_class (class_of body)) (some_test (λ n. child_starts n body) last)
        started phase (outside_job (now ++ more) body) list
    tells started (kinds.ActivityTaskCompleted m r) phase list fits =
        ends_by started things.Activity m (jobs.Activity (id_at (now ++ more) m) (ends.Completed r)) phase list refl fits refl refl
    tells started (kinds.ActivityTaskFailed m) phase list fits =
        ends_by started things.Activity m (jobs.Activity (id_at (now ++ more) m) ends.Failed) phase list refl fits refl refl
    tells started (kinds.ActivityTaskTimedOut m) phase list fits =
        ends_by started things.Activity m (jobs.Activity (id_at (now ++ more) m) ends.TimedOut) phase list refl fits refl refl
    tells started (kinds.ActivityTaskCanceled m) phase list fits =
        ends_by started things.Activity m (jobs.Activity (id_at (now ++ more) m) ends.Canceled) phase list refl fits refl refl
    tells started (kinds.TimerFired m) phase list fits =
        ends_by started things.Timer m (jobs.TimerFired (id_at (now ++ more) m)) phase list refl fits refl refl
    tells started (kinds.ChildWorkflowExecutionCompleted m r) phase list fits =
        ends_by started things.Child m (jobs.Child (id_at (now ++ more) m) (child_ends.Completed r)) phase list refl fits refl refl
    tells started (kinds.ChildWorkflowExecutionFailed m) phase list fits =
        ends_by started things.Child m (jobs.Child (id_at (now ++ more) m) child_ends.Failed) phase list refl fits refl refl
    tells started (kinds.ChildWorkflowExecutionCanceled m) phase list fits =
        ends_by started things.Child m (jobs.Child (id_at (now ++ more) m) child_ends.Canceled) phase list refl fits refl refl
    tells started (kinds.ChildWorkflowExecutionTimedOut m) phase list fits =
        ends_by started things.Child m (jobs.Child (id_at (now ++ more) m) child_ends.TimedOut) phase list refl fits refl refl
    tells started (kinds.ChildWorkflowExecutionTerminated m) phase list fits =
        ends_by started things.Child m (jobs.Child (id_at (now ++ more) m) child_ends.Terminated) phase list refl fits refl refl
    tells started (kinds.StartChildWorkflowExecutionFailed m) phase list fits =
        ends_by started things.Child m (jobs.Child (id_at (now ++ more) m) child_ends.StartFailed) phase list refl fits refl refl
    tells started (kinds.ExternalWorkflowExecutionCancelRequested m) phase list fits =
        off_by started (λ n. eqb n m) true phase list (no_request things.CancelRequest m refl fits)
    tells started (kinds.RequestCancelExternalWorkflowExecutionFailed m) phase list fits =
        off_by started (λ n. eqb n m) true phase list (no_request things.CancelRequest m refl fits)
    tells started (kinds.ExternalWorkflowExecutionSignaled m) phase list fits =
        off_by started (λ n. eqb n m) true phase list (no_request things.SignalRequest m refl fits)
    tells started (kinds.SignalExternalWorkflowExecutionFailed m) phase list fits =
        off_by started (λ n. eqb n m) true phase list (no_request things.SignalRequest m refl fits)
    tells started (kinds.TimerCanceled m) phase list fits = inside_by started (λ n. eqb n m) phase list
    tells started (kinds.ChildWorkflowExecutionStarted m) phase list fits =
        start_by (jobs.ChildStarted (id_at (now ++ more) m)) list things.Child (id_at (now ++ more) m) refl refl name phase started
        (some_test (λ n. eqb n m) last) (hits things.Child m refl fits)
        ∙ sym (ap (λ b. left_to_tell (b && true) (some_test (λ n. eqb n m) last) started phase list) (no_test none last (λ n. refl)))
    tells started body phase list fits = off_by started none (is_outside_class (class_of body)) phase list (no_test none last (λ n. refl))

    -- whether the jobs of an event say that the thing has started
    says : (body : EventKind) (list : List Job) → role_fault now (role_of body) ≡ None
        → starts_in name (outside_job (now ++ more) body ++ list) ≡ (some_test (λ n. child_starts n body) last || starts_in name list)
    says (kinds.ChildWorkflowExecutionStarted m) list fits = ap (λ b. b || starts_in name list) (hits things.Child m refl fits)
    says body list fits = sym (ap (λ b. b || starts_in name list) (no_test none last (λ n. refl)))

  module _ (now between : List Event) (event : Event) (placed : fault_after [] now ≡ None) (fits : place_fault now event ≡ None) where
    abbrev X : Bool
    X = closes_last thing id now event named placed fits

    abbrev K : Bool
    K = cancels_last thing id now event named placed fits

    abbrev after : List Event
    after = now ++ event ∷ []

    abbrev since : List Event
    since = between ++ event ∷ []

    -- what the event does to the thing
    data Effect (commands later : List Command) : Type 0 where
      opens_it : own thing id commands ≡ true ∷ own thing id later → standing thing id now ≡ Absent
          → standing thing id after ≡ Open → has_ended thing id after since ≡ false → (X && is_outside event) ≡ false → Effect commands later
      closes_it : own thing id commands ≡ false ∷ own thing id later → is_timer thing ≡ true → is_running (standing thing id now) ≡ true
          → standing thing id after ≡ Absent → has_ended thing id after since ≡ false → (X && is_outside event) ≡ false → opens thing id event ≡ false → Effect commands later
      asks_it : own thing id commands ≡ false ∷ own thing id later → is_timer thing ≡ false → is_running (standing thing id now) ≡ true
          → standing thing id after ≡ AskedToCancel → has_ended thing id after since ≡ has_ended thing id now between
          → (X && is_outside event) ≡ false → opens thing id event ≡ false → Effect commands later
      ends_it : own thing id commands ≡ own thing id later → is_running (standing thing id now) ≡ true
          → standing thing id after ≡ Absent → has_ended thing id after since ≡ true → (X && is_outside event) ≡ true → opens thing id event ≡ false → Effect commands later
      leaves_it : own thing id commands ≡ own thing id later → standing thing id after ≡ standing thing id now
          → has_ended thing id after since ≡ has_ended thing id now between → (X && is_outside event) ≡ false → opens thing id event ≡ false → Effect commands later

    module _ (fresh : Fresh now between) where
      allowed : role_fault now (role_of event.body) ≡ None
      allowed = (accepted now event fits).allowed

      here_fresh : has_outside (Some event.number) between ≡ false
      here_fresh = let at = (accepted now event fits).numbered in fresh event.number (omega arith)

      opens_close_not : (role : Role) → opens_under thing id role ≡ true → (n : ℕ) → closes_number n role ≡ false
      opens_close_not (Opens _ _) is n = refl
      opens_close_not (Refers _ _ _) is n = cc
      opens_close_not (CancelsChild _) is n = cc
      opens_close_not Plain is n = cc

      not_x : X ≡ false → (X && is_outside event) ≡ false
      not_x off = ap (λ b. b && is_outside event) off

      plain_effect : (commands : List Command) → is_commanded event ≡ false → Effect commands commands
      plain_effect commands inside = by X refl
        where
          out : opens thing id event ≡ false
          out = plain_opens thing id event.body inside

          flat : (t : Bool) → (not t && false) ≡ false
          flat true = refl
          flat false = refl

          by : (x : Bool) → X ≡ x → Effect commands commands
          by true p =
              let found = some_number (λ n. closes_number n (role_of event.body)) (last_named now thing id) p in
              let outside = outside_closes found.0 event.body inside found.2 in
              let all = closed thing id now event named placed fits found.0 found.1 found.2 in
              ends_it refl all.0 all.1 (all.2 between here_fresh ∙ outside) (ap₂ (λ a b. a && b) p outside) out
          by false p =
              let all = kept thing id now event named placed fits out p in
              let none : K ≡ false =
              ap (λ b. not (is_timer thing) && b)
              (no_test (λ n. cancels_number now n (role_of event.body)) (last_named now thing id) (λ n. plain_cancels now n event.body inside))
              ∙ flat (is_timer thing) in
              leaves_it refl (all.0 ∙ ap (λ b. cond b (asked_to (standing thing id now)) (standing thing id now)) none) (all.2 between) (not_x p) out

      made_effect : (more : List Event) (command : Command) (later : List Command) → is_commanded event ≡ true
          → names (now ++ more) command event.body ≡ true → Effect (command ∷ later) later
      made_effect more command later inside alike = by (opens thing id event) refl
        where
          o_is : act_opens thing id (act_of command) ≡ opens thing id event
          o_is = opens_alike thing id (now ++ more) command event.body named alike

          k_is : act_cancels thing id (act_of command) ≡ (X || K)
          k_is = cancels_alike thing id now named placed more command event.body alike allowed

          list_by : (o k : Bool) → opens thing id event ≡ o → (X || K) ≡ k
              → own thing id (command ∷ later) ≡ mark o k (own thing id later)
          list_by o k p q = ap₂ (λ a b. mark a b (own thing id later)) (o_is ∙ p) (k_is ∙ q)

          not_timer : (t b : Bool) → (not t && b) ≡ true → t ≡ false
          not_timer true b is = cc
          not_timer false b is = refl

          by_cancel : (k : Bool) → K ≡ k → opens thing id event ≡ false → X ≡ false → Effect (command ∷ later) later
          by_cancel true q out p =
              let all = kept thing id now event named placed fits out p in
              asks_it (list_by false true out (ap₂ (λ a b. a || b) p q))
              (not_timer (is_timer thing) (some_test (λ n. cancels_number now n (role_of event.body)) (last_named now thing id)) q)
              (all.1 q) (all.0 ∙ ap (λ b. cond b (asked_to (standing thing id now)) (standing thing id now)) q ∙ asked_of (standing thing id now) (all.1 q))
              (all.2 between) (not_x p) out
          by_cancel false q out p =
              let all = kept thing id now event named placed fits out p in
              leaves_it (list_by false false out (ap₂ (λ a b. a || b) p q))
              (all.0 ∙ ap (λ b. cond b (asked_to (standing thing id now)) (standing thing id now)) q) (all.2 between) (not_x p) out

          by_close : (x : Bool) → X ≡ x → opens thing id event ≡ false → Effect (command ∷ later) later
          by_close true p out =
              let found = some_number (λ n. closes_number n (role_of event.body)) (last_named now thing id) p in
              let what = commanded_closes found.0 event.body inside found.2 in
              let there : Reference now things.Timer found.0 =
              reference now things.Timer found.0 (ap (role_fault now) (sym what.1) ∙ allowed) in
              let role = last_named_role thing id found.0 now (numbered_after [] now placed) found.1 in
              let timer : is_timer thing ≡ true =
              timer_of thing (sym (ap (λ r. is_thing things.Timer (opened_thing r)) role.2) ∙ there.kind) in
              let all = closed thing id now event named placed fits found.0 found.1 found.2 in
              closes_it (list_by false true out (ap (λ a. a || K) p)) timer all.0 all.1 (all.2 between here_fresh ∙ what.0)
              (ap₂ (λ a b. a && b) p what.0) out
          by_close false p out = by_cancel K refl out p

          by : (o : Bool) → opens thing id event ≡ o → Effect (command ∷ later) later
          by true p =
              let all = opened thing id now event named placed fits p in
              opens_it (ap (λ a. mark a (act_cancels thing id (act_of command)) (own thing id later)) (o_is ∙ p)) all.0 all.1 (all.2 since)
              (not_x (no_test (λ n. closes_number n (role_of event.body)) (last_named now thing id) (opens_close_not (role_of event.body) p)))
          by false p = by_close X refl p

      effect : (more : List Event) (commands later : List Command) → Step now more event commands later → Effect commands later
      effect more commands later (by_command command inside is alike) =
          subst (λ l. Effect l later) (sym is) (made_effect more command later inside alike)
      effect more commands later (by_itself inside is) =
          subst (λ l. Effect commands l) is (plain_effect commands inside)

  module _ (now : List Event) (event : Event) (placed : fault_after [] now ≡ None) (fits : place_fault now event ≡ None) where
    -- the event says that the thing has started
    abbrev S : Bool
    S = some_test (λ n. child_starts n event.body) (last_named now thing id)

    fitting : role_fault now (role_of event.body) ≡ None
    fitting = (accepted now event fits).allowed

    -- then it is open, no timer, and counts as started
    record Begins : Type 0 where
      number : ℕ
      last_is : last_named now thing id ≡ Some number
      runs : is_running (standing thing id now) ≡ true
      no_timer : is_timer thing ≡ false
      role : role_of event.body ≡ Refers things.Child number Starts

    child_no_timer : (kind : Thing) → same_thing things.Child kind ≡ true → is_timer kind ≡ false
    child_no_timer things.Child is = refl
    child_no_timer _ is = cc

    begins : S ≡ true → Begins
    begins is =
        let found = some_number (λ n. child_starts n event.body) (last_named now thing id) is in
        let child : StartsChild now found.0 event.body = starts_child now found.0 event.body found.2 fitting in
        let role = last_named_role thing id found.0 now (numbered_after [] now placed) found.1 in record {
          number = found.0;
          last_is = found.1;
          runs = running_is thing id now event named placed fits found.0 found.1 child.found;
          no_timer = child_no_timer thing (sym (ap (λ r. is_thing things.Child (opened_thing r)) role.2) ∙ child.kind);
          role = child.role;
        }

    last_same : opens thing id event ≡ false → last_named (now ++ event ∷ []) thing id ≡ last_named now thing id
    last_same out = last_named-push thing id now event ∙ ap (λ b. or_else (number_if b event) (last_named now thing id)) out

    -- a thing that has started stays so
    pub begun_kept : opens thing id event ≡ false → has_begun now name ≡ true → has_begun (now ++ event ∷ []) name ≡ true
    begun_kept out is =
        ap (λ (o : Option ℕ). let b : Bool = elim o [ None ↦ false | Some number ↦ is_started (now ++ event ∷ []) number ] in b) (last_same out)
        ∙ by (last_named now thing id) is
      where
        or_left : (a b : Bool) → a ≡ true → (a || b) ≡ true
        or_left true b is = refl
        or_left false b is = cc

        by : (o : Option ℕ) → ◌≡◌ {A = Bool} (elim o [ None ↦ false | Some number ↦ is_started now number ]) true
            → ◌≡◌ {A = Bool} (elim o [ None ↦ false | Some number ↦ is_started (now ++ event ∷ []) number ]) true
        by None is = cc
        by (Some number) is = started-push number now event ∙ or_left (is_started now number) (starts_number number (role_of event.body)) is

    refers_opens_not : (role : Role) (number : ℕ) → role ≡ Refers things.Child number Starts → opens_under thing id role ≡ false
    refers_opens_not role number is = ap (λ r. opens_under thing id r) is

    begun_now : S ≡ true → has_begun (now ++ event ∷ []) name ≡ true
    begun_now is =
        let all = begins is in
        ap (λ (o : Option ℕ). let b : Bool = elim o [ None ↦ false | Some number ↦ is_started (now ++ event ∷ []) number ] in b)
        (last_same (refers_opens_not (role_of event.body) all.number all.role) ∙ all.last_is)
        ∙ started-push all.number now event
        ∙ ap (λ b. is_started now all.number || b) (ap (starts_number all.number) all.role ∙ eq-eqb all.number all.number refl)
        ∙ or_true (is_started now all.number)
      where
        or_true : (a : Bool) → (a || true) ≡ true
        or_true true = refl
        or_true false = refl

    -- it is not said twice
    not_begun : S ≡ true → starts_again now (role_of event.body) ≡ false → has_begun now name ≡ false
    not_begun is once =
        let all = begins is in
        ap (λ (o : Option ℕ). let b : Bool = elim o [ None ↦ false | Some number ↦ is_started now number ] in b) all.last_is
        ∙ sym (ap (λ r. starts_again now r) all.role) ∙ once

    no_start : standing thing id now ≡ Absent → S ≡ false
    no_start absent = by S refl
      where
        by : (s : Bool) → S ≡ s → s ≡ false
        by true p = absurd (running_not_absent (standing thing id now) (begins p).runs absent)
        by false p = refl

    no_end : closes_last thing id now event named placed fits ≡ true → S ≡ false
    no_end closes = by S refl
      where
        by : (s : Bool) → S ≡ s → s ≡ false
        by true p =
            let found = some_number (λ n. closes_number n (role_of event.body)) (last_named now thing id) closes in
            let both : closes_number found.0 (Refers things.Child (begins p).number Starts) ≡ true =
            sym (ap (closes_number found.0) (begins p).role) ∙ found.2 in cc
        by false p = refl

  module _ (history seen tail end : List Event) where
    -- the thing was lost: a command that cancels it is still to be recorded, and it is not open any more
    never_lost : (rest now between : List Event) (commands : List Command) → Along history seen tail end now between rest commands
        → standing thing id now ≡ Absent → (list : List Bool) → own thing id commands ≡ false ∷ list → ⊥
    never_lost [] now between [] along absent list is = cc
    never_lost [] now between (command ∷ commands) along absent list is = let none = along.match in cc
    never_lost (event ∷ rest) now between commands along absent list is =
        let next = step_on history seen tail end now between event rest commands along in
        by next.0 (effect now between event along.placed (place_none (length now + 1) (place_fault now event) (fault_after (now ++ event ∷ []) rest) along.fits) along.fresh (event ∷ (rest ++ tail)) commands next.0 next.1)
        (λ absent list is. never_lost rest (now ++ event ∷ []) (between ++ event ∷ []) next.0 next.2 absent list is)
      where
        by : (later : List Command) → Effect now between event along.placed (place_none (length now + 1) (place_fault now event) (fault_after (now ++ event ∷ []) rest) along.fits) commands later
            → (standing thing id (now ++ event ∷ []) ≡ Absent → (list : List Bool) → own thing id later ≡ false ∷ list → ⊥) → ⊥
        by later (opens_it own_is _ _ _ _) deeper = let both = sym own_is ∙ is in cc
        by later (closes_it own_is _ runs _ _ _ _) deeper = running_not_absent (standing thing id now) runs absent
        by later (asks_it own_is _ runs _ _ _ _) deeper = running_not_absent (standing thing id now) runs absent
        by later (ends_it own_is runs _ _ _ _) deeper = running_not_absent (standing thing id now) runs absent
        by later (leaves_it own_is phase _ _ _) deeper = deeper (phase ∙ absent) list (sym own_is ∙ is)

    abbrev pub told : List Event → List Job
    told rest = jobs_by (outside_job seen) rest

    -- what an event leaves to be told
    told_by : (started : Bool) (now between : List Event) (event : Event) (rest : List Event) (phase : Phase) (closes starts : Bool)
        (placed : fault_after [] now ≡ None) (fits : place_fault now event ≡ None) → seen ≡ now ++ (event ∷ (rest ++ end))
        → (X now between event placed fits && is_outside event) ≡ closes → S now event placed fits ≡ starts
        → takes name phase started (told (event ∷ rest)) ≡ left_to_tell closes starts started phase (told rest)
    told_by started now between event rest phase closes starts placed fits is x y =
        subst (λ l. Tells (X now between event placed fits && is_outside event) (S now event placed fits) started phase (outside_job l event.body) (told rest)) (sym is)
        (tells now (event ∷ (rest ++ end)) placed started event.body phase (told rest) (accepted now event fits).allowed)
        ∙ ap₂ (λ (a b : Bool). left_to_tell a b started phase (told rest)) x y

    said_by : (now : List Event) (event : Event) (rest : List Event) (starts : Bool) (placed : fault_after [] now ≡ None) (fits : place_fault now event ≡ None)
        → seen ≡ now ++ (event ∷ (rest ++ end)) → S now event placed fits ≡ starts
        → starts_in name (told (event ∷ rest)) ≡ (starts || starts_in name (told rest))
    said_by now event rest starts placed fits is y =
        subst (λ l. starts_in name (outside_job l event.body ++ told rest) ≡ (S now event placed fits || starts_in name (told rest))) (sym is)
        (says now (event ∷ (rest ++ end)) placed event.body (told rest) (accepted now event fits).allowed)
        ∙ ap (λ b. b || starts_in name (told rest)) y

    at_end : (now between : List Event) (ended : Bool) → has_ended thing id now between ≡ ended
        → has_ended thing id (now ++ []) (between ++ []) ≡ ended
    at_end now between ended is = rw (append-nil, append-nil) is

    in_front : (now between : List Event) (event : Event) (rest : List Event) (ended : Bool)
        → has_ended thing id ((now ++ event ∷ []) ++ rest) ((between ++ event ∷ []) ++ rest) ≡ ended
        → has_ended thing id (now ++ event ∷ rest) (between ++ event ∷ rest) ≡ ended
    in_front now between event rest ended is =
        subst (λ l. has_ended thing id l (between ++ event ∷ rest) ≡ ended) (append_assoc now (event ∷ []) rest)
        (subst (λ l. has_ended thing id ((now ++ event ∷ []) ++ rest) l ≡ ended) (append_assoc between (event ∷ []) rest) is)

    -- what has started is said to have started
    abbrev pub Holds : Bool → List Event → List Event → Type 0
    Holds started rest now = (started || starts_in name (told rest)) ≡ true → has_begun (now ++ rest) name ≡ true

    flat : (a : Bool) → (a || false) ≡ a
    flat true = refl
    flat false = refl

    holds_end : (started : Bool) (now : List Event) → (started ≡ true → has_begun now name ≡ true) → Holds started [] now
    holds_end started now begun is = rw append-nil (begun (sym (flat started) ∙ is))

    -- an event before
    holds_on : (started later : Bool) (now : List Event) (event : Event) (rest : List Event) (starts : Bool) (placed : fault_after [] now ≡ None)
        (fits : place_fault now event ≡ None) → seen ≡ now ++ (event ∷ (rest ++ end)) → S now event placed fits ≡ starts
        → ((started || (starts || starts_in name (told rest))) ≡ true → (later || starts_in name (told rest)) ≡ true)
        → Holds later rest (now ++ event ∷ []) → Holds started (event ∷ rest) now
    holds_on started later now event rest starts placed fits is y more holds said =
        subst (λ l. has_begun l name ≡ true) (append_assoc now (event ∷ []) rest)
        (holds (more (sym (ap (λ b. started || b) (said_by now event rest starts placed fits is y)) ∙ said)))

    abbrev Over : Bool → List Event → List Event → List Event → Type 0
    Over started rest now between =
        (has_ended thing id (now ++ rest) (between ++ rest) ≡ true) × (takes name EndTold started (told rest) ≡ true) × Holds started rest now

    -- the thing has ended, and nothing more comes of it
    over_told : (started : Bool) (rest now between : List Event) (commands : List Command) → Along history seen tail end now between rest commands
        → has_ended thing id now between ≡ true → standing thing id now ≡ Absent → own thing id commands ≡ []
        → (started ≡ true → has_begun now name ≡ true) → Over started rest now between
    over_told started [] now between commands along on absent none begun = (at_end now between true on, refl, holds_end started now begun)
    over_told started (event ∷ rest) now between commands along on absent none begun =
        let next = step_on history seen tail end now between event rest commands along in
        by next.0 (effect now between event along.placed fits along.fresh (event ∷ (rest ++ tail)) commands next.0 next.1)
        (λ on absent none begun. over_told started rest (now ++ event ∷ []) (between ++ event ∷ []) next.0 next.2 on absent none begun)
      where
        fits : place_fault now event ≡ None
        fits = place_none (length now + 1) (place_fault now event) (fault_after (now ++ event ∷ []) rest) along.fits

        by : (later : List Command) → Effect now between event along.placed fits commands later
            → (has_ended thing id (now ++ event ∷ []) (between ++ event ∷ []) ≡ true → standing thing id (now ++ event ∷ []) ≡ Absent
            → own thing id later ≡ [] → (started ≡ true → has_begun (now ++ event ∷ []) name ≡ true)
            → Over started rest (now ++ event ∷ []) (between ++ event ∷ [])) → Over started (event ∷ rest) now between
        by later (opens_it own_is _ _ _ _) deeper = let both = sym own_is ∙ none in cc
        by later (closes_it own_is _ runs _ _ _ _) deeper = absurd (running_not_absent (standing thing id now) runs absent)
        by later (asks_it own_is _ runs _ _ _ _) deeper = absurd (running_not_absent (standing thing id now) runs absent)
        by later (ends_it own_is runs _ _ _ _) deeper = absurd (running_not_absent (standing thing id now) runs absent)
        by later (leaves_it own_is phase end_is x out) deeper =
            let more = deeper (end_is ∙ on) (phase ∙ absent) (sym own_is ∙ none) (λ is. begun_kept now event along.placed fits out (begun is)) in
            let y = no_start now event along.placed fits absent in (
              in_front now between event rest true more.0,
              told_by started now between event rest EndTold false false along.placed fits along.seen_is x y ∙ more.1,
              holds_on started started now event rest false along.placed fits along.seen_is y (λ is. is) more.2,
            )

    module _ (target : Phase) (calm : is_untold target ≡ false) where
      abbrev pub Going : Bool → List Event → List Event → List Event → Type 0
      Going started rest now between =
          (ended : Bool) × (has_ended thing id (now ++ rest) (between ++ rest) ≡ ended)
          × (takes name (cond ended Ended target) started (told rest) ≡ true) × Holds started rest now

      -- the thing has not ended yet
      pub going_told : (started : Bool) (rest now between : List Event) (commands : List Command) → Along history seen tail end now between rest commands
          → has_ended thing id now between ≡ false → apply (is_timer thing) (own thing id commands) (standing thing id now) ≡ Some target
          → start_once now rest ≡ true → (started ≡ true → has_begun now name ≡ true) → (started ≡ true → has_true (own thing id commands) ≡ false)
          → Going started rest now between
      going_told started [] now between commands along off path once begun free =
          (false, at_end now between false off, ap not calm, holds_end started now begun)
      going_told started (event ∷ rest) now between commands along off path once begun free =
          let next = step_on history seen tail end now between event rest commands along in
          by next.0 next.2 (effect now between event along.placed fits along.fresh (event ∷ (rest ++ tail)) commands next.0 next.1)
          (λ started off path begun free. going_told started rest (now ++ event ∷ []) (between ++ event ∷ []) next.0 next.2 off path onces.1 begun free)
        where
          fits : place_fault now event ≡ None
          fits = place_none (length now + 1) (place_fault now event) (fault_after (now ++ event ∷ []) rest) along.fits

          onces : (not (starts_again now (role_of event.body)) ≡ true) × (start_once (now ++ event ∷ []) rest ≡ true)
          onces = and_parts (not (starts_again now (role_of event.body))) (start_once (now ++ event ∷ []) rest) once

          Deeper : List Command → Type 0
          Deeper later =
              (started : Bool) → has_ended thing id (now ++ event ∷ []) (between ++ event ∷ []) ≡ false
              → apply (is_timer thing) (own thing id later) (standing thing id (now ++ event ∷ [])) ≡ Some target
              → (started ≡ true → has_begun (now ++ event ∷ []) name ≡ true) → (started ≡ true → has_true (own thing id later) ≡ false)
              → Going started rest (now ++ event ∷ []) (between ++ event ∷ [])

          not_started : (b : Bool) → (b ≡ true → has_begun now name ≡ true) → has_begun now name ≡ false → b ≡ false
          not_started true begun none = absurd (both_ways (has_begun now name) none (begun refl))
          not_started false begun none = refl

          open_so : (ended : Bool) → is_running target ≡ true → (is_running (cond ended Ended target) || is_untold (cond ended Ended target)) ≡ true
          open_so true runs = refl
          open_so false runs = ap (λ b. b || is_untold target) runs

          -- an event that does not end the thing
          on : (later : List Command) → Deeper later → (s : Bool) → S now event along.placed fits ≡ s
              → (X now between event along.placed fits && is_outside event) ≡ false
              → has_ended thing id (now ++ event ∷ []) (between ++ event ∷ []) ≡ false
              → apply (is_timer thing) (own thing id later) (standing thing id (now ++ event ∷ [])) ≡ Some target
              → (s ≡ true → is_running (standing thing id (now ++ event ∷ [])) ≡ true)
              → (started ≡ true → has_begun (now ++ event ∷ []) name ≡ true) → (started ≡ true → has_true (own thing id later) ≡ false)
              → Going started (event ∷ rest) now between
          on later deeper false y x end_is path runs begun_later free_later =
              let more = deeper started end_is path begun_later free_later in (
                more.0,
                in_front now between event rest more.0 more.1,
                told_by started now between event rest (cond more.0 Ended target) false false along.placed fits along.seen_is x y ∙ more.2,
                holds_on started started now event rest false along.placed fits along.seen_is y (λ is. is) more.3,
              )
          on later deeper true y x end_is path runs begun_later free_later =
              let all = begins now event along.placed fits y in
              let leads = runs_on (own thing id later) (standing thing id (now ++ event ∷ [])) target (runs refl)
              (sym (ap (λ t. apply t (own thing id later) (standing thing id (now ++ event ∷ []))) all.no_timer) ∙ path) in
              let more = deeper true end_is path (λ is. begun_now now event along.placed fits y) (λ is. leads.0) in
              let none : started ≡ false =
              not_started started begun (not_begun now event along.placed fits y (not-true (starts_again now (role_of event.body)) onces.0)) in (
                more.0,
                in_front now between event rest more.0 more.1,
                told_by started now between event rest (cond more.0 Ended target) false true along.placed fits along.seen_is x y
                    ∙ and_from _ _ (and_from _ _ (open_so more.0 leads.1) (ap not none)) more.2,
                holds_on started true now event rest true along.placed fits along.seen_is y (λ is. refl) more.3,
              )

          absurd_true : (later : List Command) → own thing id commands ≡ true ∷ own thing id later → started ≡ true → ⊥
          absurd_true later own_is is = let both = sym (free is) ∙ ap has_true own_is in cc

          tail_free : (later : List Command) → own thing id commands ≡ false ∷ own thing id later → started ≡ true → has_true (own thing id later) ≡ false
          tail_free later own_is is = sym (ap has_true own_is) ∙ free is

          ends : (later : List Command) (list : List Bool) → Along history seen tail end (now ++ event ∷ []) (between ++ event ∷ []) rest later
              → own thing id commands ≡ list → own thing id commands ≡ own thing id later
              → is_running (standing thing id now) ≡ true → standing thing id (now ++ event ∷ []) ≡ Absent
              → has_ended thing id (now ++ event ∷ []) (between ++ event ∷ []) ≡ true
              → (X now between event along.placed fits && is_outside event) ≡ true → opens thing id event ≡ false → Going started (event ∷ rest) now between
          ends later [] along_later p own_is runs absent end_is x out =
              let over = over_told started rest (now ++ event ∷ []) (between ++ event ∷ []) later along_later end_is absent (sym own_is ∙ p)
              (λ is. begun_kept now event along.placed fits out (begun is)) in
              let y = no_end now event along.placed fits (and_parts (X now between event along.placed fits) (is_outside event) x).0 in (
                true,
                in_front now between event rest true over.0,
                told_by started now between event rest Ended true false along.placed fits along.seen_is x y ∙ over.1,
                holds_on started started now event rest false along.placed fits along.seen_is y (λ is. is) over.2,
              )
          ends later (true ∷ list) along_later p own_is runs absent end_is x out =
              absurd (apply_open (is_timer thing) list (standing thing id now) target runs
              (ap (λ (l : List Bool). apply (is_timer thing) l (standing thing id now)) (sym p) ∙ path))
          ends later (false ∷ list) along_later p own_is runs absent end_is x out =
              absurd (never_lost rest (now ++ event ∷ []) (between ++ event ∷ []) later along_later absent list (sym own_is ∙ p))

          by : (later : List Command) → Along history seen tail end (now ++ event ∷ []) (between ++ event ∷ []) rest later
              → Effect now between event along.placed fits commands later → Deeper later → Going started (event ∷ rest) now between
          by later along_later (opens_it own_is was phase end_is x) deeper =
              on later deeper (S now event along.placed fits) refl x end_is
              (ap (λ p. apply (is_timer thing) (own thing id later) p) phase
              ∙ sym (ap₂ (λ (l : List Bool) (p : Phase). apply (is_timer thing) l p) own_is was) ∙ path)
              (λ is. ap is_running phase) (λ is. absurd (absurd_true later own_is is)) (λ is. absurd (absurd_true later own_is is))
          by later along_later (closes_it own_is timer runs phase end_is x out) deeper =
              on later deeper (S now event along.placed fits) refl x end_is
              (ap (λ p. apply (is_timer thing) (own thing id later) p) phase
              ∙ sym (ap (λ t. apply (is_timer thing) (own thing id later) (cond t Absent AskedToCancel)) timer)
              ∙ sym (apply_cancel (is_timer thing) (own thing id later) (standing thing id now) runs)
              ∙ sym (ap (λ (l : List Bool). apply (is_timer thing) l (standing thing id now)) own_is) ∙ path)
              (λ is. absurd (both_ways (is_timer thing) (begins now event along.placed fits is).no_timer timer))
              (λ is. begun_kept now event along.placed fits out (begun is)) (tail_free later own_is)
          by later along_later (asks_it own_is timer runs phase end_is x out) deeper =
              on later deeper (S now event along.placed fits) refl x (end_is ∙ off)
              (ap (λ p. apply (is_timer thing) (own thing id later) p) phase
              ∙ sym (ap (λ t. apply (is_timer thing) (own thing id later) (cond t Absent AskedToCancel)) timer)
              ∙ sym (apply_cancel (is_timer thing) (own thing id later) (standing thing id now) runs)
              ∙ sym (ap (λ (l : List Bool). apply (is_timer thing) l (standing thing id now)) own_is) ∙ path)
              (λ is. ap is_running phase) (λ is. begun_kept now event along.placed fits out (begun is)) (tail_free later own_is)
          by later along_later (ends_it own_is runs absent end_is x out) deeper =
              ends later (own thing id commands) along_later refl own_is runs absent end_is x out
          by later along_later (leaves_it own_is phase end_is x out) deeper =
              on later deeper (S now event along.placed fits) refl x (end_is ∙ off)
              (ap₂ (λ (l : List Bool) (p : Phase). apply (is_timer thing) l p) (sym own_is) phase ∙ path)
              (λ is. ap is_running phase ∙ (begins now event along.placed fits is).runs)
              (λ is. begun_kept now event along.placed fits out (begun is)) (λ is. sym (ap has_true own_is) ∙ free is)
