-- The next task comes with things as the rules say, and jobs that a server may give.
use Rattle.std.proofs.Common.{◌≡◌, ℕ, zero, suc, ◌+◌, ◌-◌, ◌<◌, Bool, true, false, not, ◌&&◌, ◌||◌, cond, List, [], ◌∷◌, ◌++◌, length, Option, Some, None, slice_get, refl, sym, ap, ap₂, subst, ◌∙◌, append_assoc, append-nil, arith}
use Rattle.std.specs.Prelude.{bytes_eq}
use Rattle.std.proofs.lemmas.Bool.{and_parts, and_from, not_from_false}
use Rattle.std.proofs.lemmas.List.{length_push}
use Rattle.wh_events.specs.declared.event.Event.{Event}
use Rattle.wh_events.specs.declared.kind.EventKind.{EventKind}
use Rattle.wh_events.specs.declared.kind.EventKind.TheVariants as kinds
use Rattle.wh_events.specs.declared.place.Thing.{Thing}
use Rattle.wh_events.specs.declared.place.Thing.TheVariants as things
use Rattle.wh_events.specs.Kinds.{role_of, class_of}
use Rattle.wh_events.specs.Kinds.Role.{Opens, Plain}
use Rattle.wh_events.specs.Cuts.{is_commanded_class, is_task_started, is_task_started_kind, commanded}
use Rattle.wh_events.specs.Machines.{same_thing, closes_number, last_named, opened_id, role_at, role_in}
use Rattle.wh_events.specs.Places.{place_fault, fault_after, is_named, role_fault, reference_fault, is_start, is_start_class, same_test}
use Rattle.wh_events.specs.declared.place.PlaceFault.TheVariants.{FirstNotStart}
use Rattle.wh_machines.proofs.Options.{first_none, not_faulty}
use Rattle.wh_machines.proofs.Histories.{place_none, later_none}
use Rattle.wh_machines.proofs.Placed.{accepted}
use Rattle.wh_machines.proofs.Jumping.{slice_get-append_left}
use Rattle.wh_workflow.specs.declared.command.Command.{Command}
use Rattle.wh_workflow.specs.declared.command.Command.TheVariants as commands
use Rattle.wh_workflow.specs.declared.job.Job.{Job}
use Rattle.wh_workflow.specs.Jobs.{id_at, start_job, signal_job, outside_job, jobs_by}
use Rattle.wh_workflow.specs.Names.{names, mismatch}
use Rattle.wh_workflow.specs.Scripts.{ActivationContext, act_of, is_timer, is_sent_act, sent_after, reduced, act_cancels, some_act, left_open, withdrawn, open_at}
use Rattle.wh_possible_runs.specs.declared.thing.Phase.{Phase}
use Rattle.wh_possible_runs.specs.declared.thing.Phase.TheVariants.{Absent, Open, AskedToCancel, Ended, EndTold}
use Rattle.wh_possible_runs.specs.declared.thing.Touch.{Touch}
use Rattle.wh_possible_runs.specs.declared.thing.Touch.TheVariants.{Untouched, Opened, Withdrawn, Canceled}
use Rattle.wh_possible_runs.specs.declared.thing.ThingState.{ThingState}
use Rattle.wh_possible_runs.specs.Things.{is_untold, phase_after_task, next_thing, is_opened}
use Rattle.wh_possible_runs.specs.Situations.{ThingName, Situation, keep_first, next_things, all_told, begin_with, next_task}
use Rattle.wh_possible_runs.specs.Shown.{has_name}
use Rattle.wh_possible_runs.specs.Rules.{phase_at, touch_at, AreWell, IsSo, AreSo, is_covered, are_covered, touch_by}
use Rattle.wh_possible_histories.specs.Records.{are_named, next_context}
use Rattle.wh_possible_histories.specs.Tellings.{takes, all_take, in_order, are_known, jobs_fit}
use Rattle.wh_possible_histories.specs.NextTasks.{has_begun, starts_in, begun_so, start_once, role_known, opens_known, untimed_jobs, NextTasksCome}
use Rattle.wh_possible_histories.proofs.Pushed.{standing, has_ended, kept, Reference, reference}
use Rattle.wh_possible_histories.proofs.Matched.{same_text, within}
use Rattle.wh_possible_histories.proofs.Recorded.{apply, plain_opens, starts_plainly, no_test, placed_first, placed_left, rules_left, Next as NextThing, next_by, begin, inside}
use Rattle.wh_possible_histories.proofs.Own.{own, sends, own_reduced}
use Rattle.wh_possible_histories.proofs.Told.{Step, by_command, by_itself, Along, step_on, opens_told, told, going_told, has_true, begun_kept}

-- the jobs of starts and signals tell of nothing

start_skips : (name : ThingName) (phase : Phase) (started : Bool) (body : EventKind) (list : List Job)
    → takes name phase started (start_job body ++ list) ≡ takes name phase started list
start_skips name phase started (kinds.WorkflowExecutionStarted _ _) list = refl
start_skips name phase started _ list = refl

signal_skips : (name : ThingName) (phase : Phase) (started : Bool) (body : EventKind) (list : List Job)
    → takes name phase started (signal_job body ++ list) ≡ takes name phase started list
signal_skips name phase started (kinds.WorkflowExecutionSignaled _ _) list = refl
signal_skips name phase started _ list = refl

skip : (name : ThingName) (phase : Phase) (started : Bool) (give : EventKind → List Job)
    → ((body : EventKind) (list : List Job) → takes name phase started (give body ++ list) ≡ takes name phase started list)
    → (events : List Event) (list : List Job) → takes name phase started (jobs_by give events ++ list) ≡ takes name phase started list
skip name phase started give skips [] list = refl
skip name phase started give skips (event ∷ rest) list =
    ap (λ l. takes name phase started l) (append_assoc (give event.body) (jobs_by give rest) list)
    ∙ skips event.body (jobs_by give rest ++ list) ∙ skip name phase started give skips rest list

pub skip_both : (name : ThingName) (phase : Phase) (started : Bool) (seen between : List Event)
    → takes name phase started (untimed_jobs seen between) ≡ takes name phase started (jobs_by (outside_job seen) between)
skip_both name phase started seen between =
    skip name phase started start_job (start_skips name phase started) between (jobs_by signal_job between ++ jobs_by (outside_job seen) between)
    ∙ skip name phase started signal_job (signal_skips name phase started) between (jobs_by (outside_job seen) between)

start_says : (name : ThingName) (body : EventKind) (list : List Job) → starts_in name (start_job body ++ list) ≡ starts_in name list
start_says name (kinds.WorkflowExecutionStarted _ _) list = refl
start_says name _ list = refl

signal_says : (name : ThingName) (body : EventKind) (list : List Job) → starts_in name (signal_job body ++ list) ≡ starts_in name list
signal_says name (kinds.WorkflowExecutionSignaled _ _) list = refl
signal_says name _ list = refl

says_skip : (name : ThingName) (give : EventKind → List Job)
    → ((body : EventKind) (list : List Job) → starts_in name (give body ++ list) ≡ starts_in name list)
    → (events : List Event) (list : List Job) → starts_in name (jobs_by give events ++ list) ≡ starts_in name list
says_skip name give skips [] list = refl
says_skip name give skips (event ∷ rest) list =
    ap (λ l. starts_in name l) (append_assoc (give event.body) (jobs_by give rest) list)
    ∙ skips event.body (jobs_by give rest ++ list) ∙ says_skip name give skips rest list

pub says_both : (name : ThingName) (seen between : List Event)
    → starts_in name (untimed_jobs seen between) ≡ starts_in name (jobs_by (outside_job seen) between)
says_both name seen between =
    says_skip name start_job (start_says name) between (jobs_by signal_job between ++ jobs_by (outside_job seen) between)
    ∙ says_skip name signal_job (signal_says name) between (jobs_by (outside_job seen) between)

-- a test that follows from another
pub then_so : (a b : Bool) → (a ≡ true → b ≡ true) → (not a || b) ≡ true
then_so true b leads = leads refl
then_so false b leads = refl

so_then_of : (a b : Bool) → (not (a || false) || b) ≡ true → a ≡ true → b ≡ true
so_then_of true b is on = is
so_then_of false b is on = cc

sends_none : (here canceled : Bool) → has_true (sends here canceled false) ≡ false
sends_none true true = refl
sends_none true false = refl
sends_none false canceled = refl

-- signals come first

Orders : List Job → Type 0
Orders list = (early : Bool) → in_order early list ≡ true

outside_orders : (seen : List Event) (body : EventKind) (list : List Job) → Orders list → Orders (outside_job seen body ++ list)
unfolding Orders
outside_orders seen (kinds.ActivityTaskCompleted m r) list all early = all (early && false)
outside_orders seen (kinds.ActivityTaskFailed m) list all early = all (early && false)
outside_orders seen (kinds.ActivityTaskTimedOut m) list all early = all (early && false)
outside_orders seen (kinds.ActivityTaskCanceled m) list all early = all (early && false)
outside_orders seen (kinds.TimerFired m) list all early = all (early && false)
outside_orders seen (kinds.ChildWorkflowExecutionStarted m) list all early = all (early && false)
outside_orders seen (kinds.ChildWorkflowExecutionCompleted m r) list all early = all (early && false)
outside_orders seen (kinds.ChildWorkflowExecutionFailed m) list all early = all (early && false)
outside_orders seen (kinds.ChildWorkflowExecutionCanceled m) list all early = all (early && false)
outside_orders seen (kinds.ChildWorkflowExecutionTimedOut m) list all early = all (early && false)
outside_orders seen (kinds.ChildWorkflowExecutionTerminated m) list all early = all (early && false)
outside_orders seen (kinds.StartChildWorkflowExecutionFailed m) list all early = all (early && false)
outside_orders seen (kinds.ExternalWorkflowExecutionCancelRequested m) list all early = all (early && true)
outside_orders seen (kinds.RequestCancelExternalWorkflowExecutionFailed m) list all early = all (early && true)
outside_orders seen (kinds.ExternalWorkflowExecutionSignaled m) list all early = all (early && true)
outside_orders seen (kinds.SignalExternalWorkflowExecutionFailed m) list all early = all (early && true)
outside_orders seen kinds.WorkflowExecutionCancelRequested list all early = all (early && false)
outside_orders seen _ list all early = all early

outside_order : (seen events : List Event) → Orders (jobs_by (outside_job seen) events)
unfolding Orders
outside_order seen [] early = refl
outside_order seen (event ∷ rest) early = outside_orders seen event.body (jobs_by (outside_job seen) rest) (outside_order seen rest) early

signal_order : (body : EventKind) (list : List Job) → in_order true list ≡ true → in_order true (signal_job body ++ list) ≡ true
signal_order (kinds.WorkflowExecutionSignaled _ _) list order = order
signal_order _ list order = order

signals_order : (events : List Event) (list : List Job) → in_order true list ≡ true → in_order true (jobs_by signal_job events ++ list) ≡ true
signals_order [] list order = order
signals_order (event ∷ rest) list order =
    subst (λ l. in_order true l ≡ true) (sym (append_assoc (signal_job event.body) (jobs_by signal_job rest) list))
    (signal_order event.body (jobs_by signal_job rest ++ list) (signals_order rest list order))

start_order : (body : EventKind) (list : List Job) → in_order true list ≡ true → in_order true (start_job body ++ list) ≡ true
start_order (kinds.WorkflowExecutionStarted _ _) list order = order
start_order _ list order = order

starts_order : (events : List Event) (list : List Job) → in_order true list ≡ true → in_order true (jobs_by start_job events ++ list) ≡ true
starts_order [] list order = order
starts_order (event ∷ rest) list order =
    subst (λ l. in_order true l ≡ true) (sym (append_assoc (start_job event.body) (jobs_by start_job rest) list))
    (start_order event.body (jobs_by start_job rest ++ list) (starts_order rest list order))

pub untimed_order : (seen between : List Event) → in_order true (untimed_jobs seen between) ≡ true
unfolding Orders
untimed_order seen between =
    starts_order between (jobs_by signal_job between ++ jobs_by (outside_job seen) between)
    (signals_order between (jobs_by (outside_job seen) between) (outside_order seen between true))

-- only the first event starts the run

no_start : (now : List Event) (event : Event) → 0 < length now → place_fault now event ≡ None → is_start event ≡ false
unfolding place_fault
no_start [] event some fits = absurd (omega arith)
no_start (first ∷ rest) event some fits = by (is_start event) (not_faulty _ FirstNotStart (first_none _ _ fits))
  where
    by : (b : Bool) → not (same_test false b) ≡ false → b ≡ false
    by true is = cc
    by false is = refl

start_none : (body : EventKind) → is_start_class (class_of body) ≡ false → start_job body ≡ []
start_none (kinds.WorkflowExecutionStarted _ _) is = cc
start_none _ is = refl

pub starts_none : (now events : List Event) → 0 < length now → fault_after now events ≡ None → jobs_by start_job events ≡ []
starts_none now [] some fits = refl
starts_none now (event ∷ rest) some fits =
    let size = length_push now event in
    ap₂ (λ (a b : List Job). a ++ b) (start_none event.body (no_start now event some (place_none _ _ _ fits)))
    (starts_none (now ++ event ∷ []) rest (omega arith) (later_none _ _ _ fits))

signal_fits : (body : EventKind) (list : List Job) → jobs_fit true list ≡ true → jobs_fit true (signal_job body ++ list) ≡ true
signal_fits (kinds.WorkflowExecutionSignaled _ _) list fit = fit
signal_fits _ list fit = fit

pub signals_fit : (events : List Event) (list : List Job) → jobs_fit true list ≡ true → jobs_fit true (jobs_by signal_job events ++ list) ≡ true
signals_fit [] list fit = fit
signals_fit (event ∷ rest) list fit =
    subst (λ l. jobs_fit true l ≡ true) (sym (append_assoc (signal_job event.body) (jobs_by signal_job rest) list))
    (signal_fits event.body (jobs_by signal_job rest ++ list) (signals_fit rest list fit))

outside_fits : (seen : List Event) (body : EventKind) (list : List Job) → jobs_fit true list ≡ true → jobs_fit true (outside_job seen body ++ list) ≡ true
outside_fits seen (kinds.ActivityTaskCompleted m r) list fit = fit
outside_fits seen (kinds.ActivityTaskFailed m) list fit = fit
outside_fits seen (kinds.ActivityTaskTimedOut m) list fit = fit
outside_fits seen (kinds.ActivityTaskCanceled m) list fit = fit
outside_fits seen (kinds.TimerFired m) list fit = fit
outside_fits seen (kinds.ChildWorkflowExecutionStarted m) list fit = fit
outside_fits seen (kinds.ChildWorkflowExecutionCompleted m r) list fit = fit
outside_fits seen (kinds.ChildWorkflowExecutionFailed m) list fit = fit
outside_fits seen (kinds.ChildWorkflowExecutionCanceled m) list fit = fit
outside_fits seen (kinds.ChildWorkflowExecutionTimedOut m) list fit = fit
outside_fits seen (kinds.ChildWorkflowExecutionTerminated m) list fit = fit
outside_fits seen (kinds.StartChildWorkflowExecutionFailed m) list fit = fit
outside_fits seen (kinds.ExternalWorkflowExecutionCancelRequested m) list fit = fit
outside_fits seen (kinds.RequestCancelExternalWorkflowExecutionFailed m) list fit = fit
outside_fits seen (kinds.ExternalWorkflowExecutionSignaled m) list fit = fit
outside_fits seen (kinds.SignalExternalWorkflowExecutionFailed m) list fit = fit
outside_fits seen kinds.WorkflowExecutionCancelRequested list fit = fit
outside_fits seen _ list fit = fit

pub outsides_fit : (seen events : List Event) → jobs_fit true (jobs_by (outside_job seen) events) ≡ true
outsides_fit seen [] = refl
outsides_fit seen (event ∷ rest) = outside_fits seen event.body (jobs_by (outside_job seen) rest) (outsides_fit seen rest)

untimed_fit : (now seen between : List Event) → 0 < length now → fault_after now between ≡ None → jobs_fit true (untimed_jobs seen between) ≡ true
untimed_fit now seen between some fits =
    subst (λ l. jobs_fit true (l ++ (jobs_by signal_job between ++ jobs_by (outside_job seen) between)) ≡ true) (sym (starts_none now between some fits))
    (signals_fit between (jobs_by (outside_job seen) between) (outsides_fit seen between))

-- what is opened and told has a name

sent_covered : (context : ActivationContext) (list : List ThingName) (earlier issued : List Command) → are_covered list issued ≡ true
    → are_covered list (sent_after context earlier issued) ≡ true
sent_covered context list earlier [] covered = refl
sent_covered context list earlier (command ∷ rest) covered =
    by (is_sent_act context earlier rest (act_of command)) (sent_covered context list (earlier ++ command ∷ []) rest parts.1)
  where
    parts : (is_covered list (act_of command) ≡ true) × (are_covered list rest ≡ true)
    parts = and_parts (is_covered list (act_of command)) (are_covered list rest) covered

    by : (t : Bool) → are_covered list (sent_after context (earlier ++ command ∷ []) rest) ≡ true
        → are_covered list (cond t (command ∷ sent_after context (earlier ++ command ∷ []) rest) (sent_after context (earlier ++ command ∷ []) rest)) ≡ true
    by true later = and_from _ _ parts.0 later
    by false later = later

or_true : (a : Bool) → (a || true) ≡ true
or_true true = refl
or_true false = refl

-- what a command opens is what its event opens
made_known : (list : List ThingName) (history : List Event) (command : Command) (body : EventKind) → names history command body ≡ true
    → is_covered list (act_of command) ≡ true → role_known list (role_of body) ≡ true
made_known list history (commands.StartActivity a b _) (kinds.ActivityTaskScheduled c d) is covered =
    subst (λ text. has_name list things.Activity text ≡ true) (same_text a c (and_parts (bytes_eq a c) (bytes_eq b d) is).0) covered
made_known list history (commands.StartTimer a _) (kinds.TimerStarted c) is covered =
    subst (λ text. has_name list things.Timer text ≡ true) (same_text a c is) covered
made_known list history (commands.StartChild a b _) (kinds.StartChildWorkflowExecutionInitiated c d) is covered =
    subst (λ text. has_name list things.Child text ≡ true) (same_text a c (and_parts (bytes_eq a c) (bytes_eq b d) is).0) covered
made_known list history (commands.CancelActivity _) (kinds.ActivityTaskCancelRequested _) is covered = refl
made_known list history (commands.CancelTimer _) (kinds.TimerCanceled _) is covered = refl
made_known list history (commands.CancelChild _) (kinds.RequestCancelExternalWorkflowExecutionInitiated _) is covered = refl
made_known list history (commands.SignalExternal _ _ _) (kinds.SignalExternalWorkflowExecutionInitiated c _) is covered = refl
made_known list history (commands.Marker _ _) (kinds.MarkerRecorded _ _) is covered = refl
made_known list history (commands.Complete _) kinds.WorkflowExecutionCompleted is covered = refl
made_known list history (commands.Fail _) kinds.WorkflowExecutionFailed is covered = refl
made_known list history commands.Cancel kinds.WorkflowExecutionCanceled is covered = refl
made_known list history (commands.ContinueAsNew _ _) kinds.WorkflowExecutionContinuedAsNew is covered = refl
made_known list history _ _ is covered = cc

plain_known : (list : List ThingName) (body : EventKind) → is_commanded_class (class_of body) ≡ false → role_known list (role_of body) ≡ true
plain_known list (kinds.ActivityTaskScheduled _ _) is = cc
plain_known list (kinds.TimerStarted _) is = cc
plain_known list (kinds.StartChildWorkflowExecutionInitiated _ _) is = cc
plain_known list (kinds.SignalExternalWorkflowExecutionInitiated _ _) is = cc
plain_known list _ is = refl

pub known_push : (list : List ThingName) (events : List Event) (event : Event) → opens_known list events ≡ true
    → role_known list (role_of event.body) ≡ true → opens_known list (events ++ event ∷ []) ≡ true
known_push list [] event all one = and_from _ _ one refl
known_push list (first ∷ rest) event all one =
    let parts = and_parts (role_known list (role_of first.body)) (opens_known list rest) all in
    and_from _ _ parts.0 (known_push list rest event parts.1 one)

known_at : (list : List ThingName) (events : List Event) (k : ℕ) → opens_known list events ≡ true → role_known list (role_in (slice_get events k)) ≡ true
known_at list [] k all = refl
known_at list (event ∷ rest) zero all = (and_parts (role_known list (role_of event.body)) (opens_known list rest) all).0
known_at list (event ∷ rest) (suc k) all = known_at list rest k (and_parts (role_known list (role_of event.body)) (opens_known list rest) all).1

module _ (list : List ThingName) (now more : List Event) (known : opens_known list now ≡ true) where
  -- what a reference names has a name
  refers_known : (kind : Thing) (number : ℕ) → same_thing kind things.CancelRequest ≡ false → is_named kind ≡ true
      → reference_fault now kind number ≡ None → has_name list kind (id_at (now ++ more) number) ≡ true
  refers_known kind number told named fits =
      let there : Reference now kind number = reference now kind number fits in
      let low = within now number there.there in
      let same : role_at (now ++ more) number ≡ role_at now number =
      ap (λ (o : Option Event). role_in o) (slice_get-append_left now more (number - 1) (omega (arith, low.0, low.1))) in
      let role : role_at now number ≡ Opens kind (id_at (now ++ more) number) =
      opens_told kind (role_at now number) told there.kind ∙ ap (λ text. Opens kind text) (ap opened_id (sym same)) in
      let all : role_known list (Opens kind (id_at (now ++ more) number)) ≡ true =
      ap (role_known list) (sym role) ∙ known_at list now (number - 1) known in
      sym (ap (λ b. not b || has_name list kind (id_at (now ++ more) number)) named) ∙ all

  one_known : {known_one rest : Bool} → known_one ≡ true → rest ≡ true → ((known_one && true) && (true && rest)) ≡ true
  one_known one rest = and_from _ _ (and_from _ _ one refl) (and_from _ _ refl rest)

  start_known : {known_one rest : Bool} → known_one ≡ true → rest ≡ true → ((true && known_one) && (true && rest)) ≡ true
  start_known one rest = and_from _ _ (and_from _ _ refl one) (and_from _ _ refl rest)

  jobs_known : (body : EventKind) (rest : List Job) → role_fault now (role_of body) ≡ None → are_known list rest ≡ true
      → are_known list (outside_job (now ++ more) body ++ rest) ≡ true
  jobs_known (kinds.ActivityTaskCompleted m r) rest fits all = one_known (refers_known things.Activity m refl refl fits) all
  jobs_known (kinds.ActivityTaskFailed m) rest fits all = one_known (refers_known things.Activity m refl refl fits) all
  jobs_known (kinds.ActivityTaskTimedOut m) rest fits all = one_known (refers_known things.Activity m refl refl fits) all
  jobs_known (kinds.ActivityTaskCanceled m) rest fits all = one_known (refers_known things.Activity m refl refl fits) all
  jobs_known (kinds.TimerFired m) rest fits all = one_known (refers_known things.Timer m refl refl fits) all
  jobs_known (kinds.ChildWorkflowExecutionStarted m) rest fits all = start_known (refers_known things.Child m refl refl fits) all
  jobs_known (kinds.ChildWorkflowExecutionCompleted m r) rest fits all = one_known (refers_known things.Child m refl refl fits) all
  jobs_known (kinds.ChildWorkflowExecutionFailed m) rest fits all = one_known (refers_known things.Child m refl refl fits) all
  jobs_known (kinds.ChildWorkflowExecutionCanceled m) rest fits all = one_known (refers_known things.Child m refl refl fits) all
  jobs_known (kinds.ChildWorkflowExecutionTimedOut m) rest fits all = one_known (refers_known things.Child m refl refl fits) all
  jobs_known (kinds.ChildWorkflowExecutionTerminated m) rest fits all = one_known (refers_known things.Child m refl refl fits) all
  jobs_known (kinds.StartChildWorkflowExecutionFailed m) rest fits all = one_known (refers_known things.Child m refl refl fits) all
  jobs_known (kinds.ExternalWorkflowExecutionCancelRequested m) rest fits all = all
  jobs_known (kinds.RequestCancelExternalWorkflowExecutionFailed m) rest fits all = all
  jobs_known (kinds.ExternalWorkflowExecutionSignaled m) rest fits all = all
  jobs_known (kinds.SignalExternalWorkflowExecutionFailed m) rest fits all = all
  jobs_known kinds.WorkflowExecutionCancelRequested rest fits all = all
  jobs_known _ rest fits all = all

module _ (list : List ThingName) (history seen tail end : List Event) where
  -- along the events since a cut
  pub all_known : (rest now between : List Event) (commands : List Command) → Along history seen tail end now between rest commands
      → are_covered list commands ≡ true → opens_known list now ≡ true
      → (are_known list (jobs_by (outside_job seen) rest) ≡ true) × (opens_known list (now ++ rest) ≡ true)
  all_known [] now between commands along covered known = (refl, rw append-nil known)
  all_known (event ∷ rest) now between commands along covered known =
      let next = step_on history seen tail end now between event rest commands along in
      let one = by next.0 next.1 in
      let more = all_known rest (now ++ event ∷ []) (between ++ event ∷ []) next.0 next.2 one.0 (known_push list now event known one.1) in (
        subst (λ l. are_known list (outside_job l event.body ++ jobs_by (outside_job seen) rest) ≡ true) (sym along.seen_is)
            (jobs_known list now (event ∷ (rest ++ end)) known event.body (jobs_by (outside_job seen) rest)
            (accepted now event (place_none (length now + 1) (place_fault now event) (fault_after (now ++ event ∷ []) rest) along.fits)).allowed more.0),
        subst (λ l. opens_known list l ≡ true) (append_assoc now (event ∷ []) rest) more.1,
      )
    where
      by : (later : List Command) → Step now (event ∷ (rest ++ tail)) event commands later
          → (are_covered list later ≡ true) × (role_known list (role_of event.body) ≡ true)
      by later (by_command command inside is alike) =
          let parts = and_parts (is_covered list (act_of command)) (are_covered list later) (ap (are_covered list) (sym is) ∙ covered) in
          (parts.1, made_known list (now ++ (event ∷ (rest ++ tail))) command event.body alike parts.0)
      by later (by_itself inside is) = (ap (are_covered list) (sym is) ∙ covered, plain_known list event.body inside)

signal_known : (list : List ThingName) (body : EventKind) (rest : List Job) → are_known list rest ≡ true → are_known list (signal_job body ++ rest) ≡ true
signal_known list (kinds.WorkflowExecutionSignaled _ _) rest all = all
signal_known list _ rest all = all

pub signals_known : (list : List ThingName) (events : List Event) (rest : List Job) → are_known list rest ≡ true
    → are_known list (jobs_by signal_job events ++ rest) ≡ true
signals_known list [] rest all = all
signals_known list (event ∷ more) rest all =
    subst (λ l. are_known list l ≡ true) (sym (append_assoc (signal_job event.body) (jobs_by signal_job more) rest))
    (signal_known list event.body (jobs_by signal_job more ++ rest) (signals_known list more rest all))

-- a thing after a task has no end that is still to be told
left_calm : (thing : Thing) (phase : Phase) (touch : Touch) → is_untold (phase_after_task thing phase touch) ≡ false
left_calm thing phase Opened = refl
left_calm thing phase Withdrawn = refl
left_calm thing Open Canceled = by (is_timer thing)
  where
    by : (t : Bool) → is_untold (cond t Absent AskedToCancel) ≡ false
    by true = refl
    by false = refl
left_calm thing Absent Canceled = refl
left_calm thing AskedToCancel Canceled = refl
left_calm thing Ended Canceled = refl
left_calm thing EndTold Canceled = refl
left_calm thing Absent Untouched = refl
left_calm thing Open Untouched = refl
left_calm thing AskedToCancel Untouched = refl
left_calm thing Ended Untouched = refl
left_calm thing EndTold Untouched = refl

pub plain_role : (body : EventKind) → is_task_started_kind body ≡ true → role_of body ≡ Plain
plain_role kinds.WorkflowTaskStarted is = refl
plain_role _ is = cc

module _ (context : ActivationContext) (issued : List Command) (since : List Event) (cut : Event) (more : List Event)
    (recorded : Option (List Event)) (placed : fault_after [] ((context.seen ++ since) ++ cut ∷ []) ≡ None)
    (started : is_task_started cut ≡ true) (wells : AreWell context [] issued)
    (match : mismatch ((context.seen ++ since) ++ more) (reduced context issued) (commanded since) ≡ None) where
  abbrev now : List Event
  now = context.seen ++ since

  abbrev after : ActivationContext
  after = next_context context since cut recorded

  since_is : fault_after [] (context.seen ++ since) ≡ None
  since_is = placed_left [] (context.seen ++ since) (cut ∷ []) placed

  seen_is : fault_after [] context.seen ≡ None
  seen_is = placed_left [] context.seen since since_is

  along : Along ((context.seen ++ since) ++ more) ((context.seen ++ since) ++ cut ∷ []) more (cut ∷ []) context.seen [] since (reduced context issued)
  along = record {
    placed = seen_is;
    fits = placed_first context.seen since seen_is since_is;
    fresh = λ n far. refl;
    is = append_assoc context.seen since more;
    seen_is = append_assoc context.seen since (cut ∷ []);
    index = 1;
    match = match;
  }

  module _ (thing : Thing) (id : List ℕ) (named : is_named thing ≡ true) (once : start_once context.seen since ≡ true) where
    -- a thing at the next cut, and what is told of it
    Comes : ThingState → Type 0
    Comes one =
        (flag : Bool) × (later : ThingState) × (next_thing flag thing one ≡ Some later) × IsSo after [] (thing, id) later
        × (takes (thing, id) later.phase later.started (untimed_jobs after.seen since) ≡ true)
        × ((not (later.started || starts_in (thing, id) (untimed_jobs after.seen since)) || has_begun after.seen (thing, id)) ≡ true)

    cut_fit : place_fault (context.seen ++ since) cut ≡ None
    cut_fit = place_none _ _ _ (placed_first (context.seen ++ since) (cut ∷ []) since_is placed)

    -- what is not opened is not sent
    sends_no_opening : (issued_touch : Touch) → issued_touch ≡ touch_at context issued thing id → is_opened issued_touch ≡ false
        → has_true (own thing id (reduced context issued)) ≡ false
    sends_no_opening touch is off =
        ap has_true (own_reduced context thing id issued wells)
        ∙ by (left_open thing id issued) (sym (ap is_opened is) ∙ off)
      where
        by : (left : Bool)
            → is_opened (touch_by (open_at context thing id) left (withdrawn thing id issued) (some_act (act_cancels thing id) issued)) ≡ false
            → has_true (sends (open_at context thing id) (some_act (act_cancels thing id) issued) left) ≡ false
        by true off = cc
        by false off = sends_none (open_at context thing id) (some_act (act_cancels thing id) issued)

    cut_is : has_ended thing id after.seen (since ++ cut ∷ []) ≡ has_ended thing id (context.seen ++ since) since
    cut_is =
        (kept thing id (context.seen ++ since) cut named since_is
        (place_none _ _ _ (placed_first (context.seen ++ since) (cut ∷ []) since_is placed))
        (plain_opens thing id cut.body (starts_plainly cut.body started).0)
        (no_test (λ n. closes_number n (role_of cut.body)) (last_named (context.seen ++ since) thing id)
        (λ n. ap (closes_number n) (plain_role cut.body started)))).2 since

    comes : (one : ThingState) → IsSo context issued (thing, id) one → (not (one.started || false) || has_begun context.seen (thing, id)) ≡ true
        → Comes one
    unfolding Comes
    comes one is begun =
        let mine = next_by context issued since cut more recorded placed started wells match thing id named one is in
        let start = begin context issued since cut more recorded placed started wells match thing id named in
        by mine start
      where
        target_is : phase_after_task thing one.phase one.touch ≡ phase_after_task thing (phase_at context thing id) (touch_at context issued thing id)
        target_is =
            rules_left thing one.phase one.touch ∙ ap₂ (λ (p : Phase) (t : Touch). phase_after_task thing p t) is.0 is.1

        by : NextThing context issued since cut more recorded placed started wells match thing id named one
            → (has_ended thing id context.seen [] ≡ false)
            × (apply (is_timer thing) (own thing id (reduced context issued)) (standing thing id context.seen)
            ≡ Some (phase_after_task thing (phase_at context thing id) (touch_at context issued thing id)))
            → Comes one
        by mine start =
            let told_so =
            going_told thing id named ((context.seen ++ since) ++ more) ((context.seen ++ since) ++ cut ∷ []) more (cut ∷ [])
            (phase_after_task thing (phase_at context thing id) (touch_at context issued thing id))
            (left_calm thing (phase_at context thing id) (touch_at context issued thing id))
            mine.1.started since context.seen [] (reduced context issued) along start.0 start.1 once
            (λ on. so_then_of one.started (has_begun context.seen (thing, id)) begun (mine.6 on).0)
            (λ on. sends_no_opening one.touch is.1 (mine.6 on).1) in
            let same : told_so.0 ≡ mine.0 = sym told_so.1 ∙ sym cut_is ∙ mine.5 in
            let phase : mine.1.phase ≡ cond told_so.0 Ended (phase_after_task thing (phase_at context thing id) (touch_at context issued thing id)) =
            mine.4 ∙ ap₂ (λ (b : Bool) (p : Phase). cond b Ended p) (sym same) target_is in (
              mine.0,
              mine.1,
              mine.2,
              mine.3,
              skip_both (thing, id) mine.1.phase mine.1.started after.seen since
                  ∙ ap (λ p. takes (thing, id) p mine.1.started (jobs_by (outside_job after.seen) since)) phase ∙ told_so.2,
              then_so (mine.1.started || starts_in (thing, id) (untimed_jobs after.seen since)) (has_begun after.seen (thing, id))
                  (λ said. begun_kept thing id named (context.seen ++ since) cut since_is cut_fit
                  (plain_opens thing id cut.body (starts_plainly cut.body started).0)
                  (told_so.3 (sym (ap (λ b. mine.1.started || b) (says_both (thing, id) after.seen since)) ∙ said))),
            )

  all_come : (list : List ThingName) (states : List ThingState) → are_named list ≡ true → start_once context.seen since ≡ true
      → AreSo context issued list states → begun_so (has_begun context.seen) list states [] ≡ true
      → (ended : List Bool) × (later : List ThingState) × (next_things list ended states ≡ Some later) × AreSo after [] list later
      × (all_take list later (untimed_jobs after.seen since) ≡ true)
      × (begun_so (has_begun after.seen) list later (untimed_jobs after.seen since) ≡ true)
  unfolding Comes
  all_come [] [] named once are begun = ([], [], refl, tt, refl, refl)
  all_come [] (one ∷ rest) named once are begun = absurd are
  all_come (name ∷ list) [] named once are begun = absurd are
  all_come (name ∷ list) (one ∷ rest) named once are begun =
      let parts = and_parts (is_named name.0) (are_named list) named in
      let begins = and_parts (not (one.started || false) || has_begun context.seen name) (begun_so (has_begun context.seen) list rest []) begun in
      let first = comes name.0 name.1 parts.0 once one are.0 begins.0 in
      let others = all_come list rest parts.1 once are.1 begins.1 in (
        first.0 ∷ others.0,
        first.1 ∷ others.1,
        by (next_thing first.0 name.0 one) others.0 first.1 others.1 first.2 others.2,
        (first.3, others.3),
        and_from _ _ first.4 others.4,
        and_from _ _ first.5 others.5,
      )
    where
      by : (found : Option ThingState) (flags : List Bool) (head : ThingState) (last : List ThingState)
          → found ≡ Some head → next_things list flags rest ≡ Some last
          → ◌≡◌ {A = Option (List ThingState)} (elim found [ Some one ↦ keep_first one (next_things list flags rest) | None ↦ None ]) (Some (head ∷ last))
      by None flags head last p q = cc
      by (Some other) flags head last p q =
          rw q (let same : other ≡ head = cc in ap (λ (x : ThingState). Some (x ∷ last)) same)

pub tasks_come : NextTasksCome
tasks_come context issued since cut more recorded list now some placed started wells match named once covered known are begun told_all awaits =
    let all = all_come context issued since cut more recorded placed started wells match list now.things named once are begun in
    let about = all_known list ((context.seen ++ since) ++ more) ((context.seen ++ since) ++ cut ∷ []) more (cut ∷ []) since context.seen [] (reduced context issued)
    (along context issued since cut more recorded placed started wells match) (sent_covered context list [] issued covered) known in
    let seen : List Event = (context.seen ++ since) ++ cut ∷ [] in
    let jobs_are : are_known list (untimed_jobs ((context.seen ++ since) ++ cut ∷ []) since) ≡ true =
    subst (λ l. are_known list (l ++ (jobs_by signal_job since ++ jobs_by (outside_job ((context.seen ++ since) ++ cut ∷ [])) since)) ≡ true)
    (sym (starts_none context.seen since some (placed_first context.seen since (seen_is context issued since cut more recorded placed started wells match)
    (since_is context issued since cut more recorded placed started wells match))))
    (signals_known list since (jobs_by (outside_job ((context.seen ++ since) ++ cut ∷ [])) since) about.0) in (
      all.0,
      record now { things = all.1; takes_signals = true },
      begins now list all.0 all.1 told_all awaits all.2,
      all.3,
      awaits,
      known_push list (context.seen ++ since) cut about.1 (ap (role_known list) (plain_role cut.body started)),
      and_from _ _ all.4
          (and_from _ _ (untimed_order ((context.seen ++ since) ++ cut ∷ []) since)
          (and_from _ _ jobs_are
          (untimed_fit context.seen ((context.seen ++ since) ++ cut ∷ []) since some
          (placed_first context.seen since (seen_is context issued since cut more recorded placed started wells match)
          (since_is context issued since cut more recorded placed started wells match))))),
      all.5,
    )
  where
    begins : (now : Situation) (list : List ThingName) (ended : List Bool) (later : List ThingState) → all_told now.things ≡ true
        → now.awaits_version ≡ false → next_things list ended now.things ≡ Some later
        → next_task list ended now ≡ Some (record now { things = later; takes_signals = true })
    begins now list ended later told_all awaits is =
        ap (λ (b : Bool). let all : Option Situation = elim b [ true ↦ begin_with now (next_things list ended now.things) | false ↦ None ] in all)
        (and_from _ _ told_all (not_from_false now.awaits_version awaits))
        ∙ ap (λ (x : Option (List ThingState)). begin_with now x) is
