-- Along a history of a table that never gets stuck.
use Rattle.std.proofs.Common.{◌≡◌, ℕ, ◌<◌, Bool, true, false, not, ◌&&◌, cond, List, [], ◌∷◌, ◌++◌, length, Option, Some, None, Result, Ok, Err, is_some, IsTrue, refl, sym, ap, ap₂, subst, ◌∙◌, append_assoc, append-nil, arith, ◌||◌}
use Rattle.std.specs.Prelude.{if◌then◌else◌}
use Rattle.std.proofs.lemmas.Bool.{and_parts, and_from, both_ways}
use Rattle.std.proofs.lemmas.List.{length_push}
use Rattle.wh_events.specs.declared.event.Event.{Event}
use Rattle.wh_events.specs.declared.kind.EventKind.{EventKind}
use Rattle.wh_events.specs.declared.kind.EventKind.TheVariants as kinds
use Rattle.wh_events.specs.declared.place.Thing.{Thing}
use Rattle.wh_events.specs.declared.place.PlaceFault.{PlaceFault}
use Rattle.wh_events.specs.Kinds.{class_of, role_of}
use Rattle.wh_events.specs.Cuts.{is_inert, is_inert_class, is_commanded, is_commanded_class, is_task_started, is_task_started_kind, next_core, lets_cut, completes, is_cut, is_recorded, record_of, commanded}
use Rattle.wh_events.specs.Machines.{same_thing, opens, open_named, last_named, machines_of}
use Rattle.wh_events.specs.Places.{place_fault, fault_after, history_fault, is_named, is_start, is_start_class, same_test}
use Rattle.wh_events.specs.declared.place.PlaceFault.TheVariants.{FirstNotStart}
use Rattle.wh_machines.proofs.Options.{first_none, not_faulty}
use Rattle.wh_machines.proofs.Histories.{place_none, later_none}
use Rattle.wh_machines.proofs.OpenNamed.{open_if, open_named_last}
use Rattle.wh_workflow.specs.declared.command.Command.{Command}
use Rattle.wh_workflow.specs.declared.job.Job.{Job}
use Rattle.wh_workflow.specs.declared.job.Job.TheVariants as jobs
use Rattle.wh_workflow.specs.declared.fault.WorkflowFault.{WorkflowFault}
use Rattle.wh_workflow.specs.declared.fault.WorkflowFault.TheVariants.{UnknownWorkflow}
use Rattle.wh_workflow.specs.declared.fault.Mismatch.{Mismatch}
use Rattle.wh_workflow.specs.Counting.{ticked}
use Rattle.wh_workflow.specs.Law.{Program, IsLawful}
use Rattle.wh_workflow.specs.Jobs.{start_job, signal_job, outside_job, jobs_by, jobs_of}
use Rattle.wh_workflow.specs.Names.{mismatch_from, mismatch}
use Rattle.wh_workflow.specs.Scripts.{ActivationContext, is_timer, open_at, has_outside, closer_of, reduced}
use Rattle.wh_workflow.specs.Activations.{and_then, Progress, activate}
use Rattle.wh_replay.specs.declared.fault.Fault.{Fault}
use Rattle.wh_replay.specs.declared.fault.Fault.TheVariants.{Workflow as WorkflowFaulty}
use Rattle.wh_replay.specs.Replays.{ReplayResult, context_at, begin_at, reached, unless_mismatch, close_task, task_after, task, replay_after, start, workflow_kind, workflow_of, replay, replay_known, replay_placed, replay_tasks, with_machines}
use Rattle.wh_rows.specs.declared.row.RowsState.{RowsState}
use Rattle.wh_rows.specs.Tables.{Definition}
use Rattle.wh_rows.specs.Rows.{initial, program}
use Rattle.wh_possible_runs.specs.declared.thing.Phase.{Phase}
use Rattle.wh_possible_runs.specs.declared.thing.Phase.TheVariants.{Absent, Ended}
use Rattle.wh_possible_runs.specs.declared.thing.Touch.TheVariants.{Untouched}
use Rattle.wh_possible_runs.specs.declared.thing.ThingState.{ThingState}
use Rattle.wh_possible_runs.specs.Things.{is_untold}
use Rattle.wh_possible_runs.specs.Situations.{ThingName, Situation, none_open, new_situation, all_told}
use Rattle.wh_possible_runs.specs.PossibleRuns.{NextTask, follow, IsStuckFree}
use Rattle.wh_possible_runs.specs.Shown.{are_plain, names_of}
use Rattle.wh_possible_runs.specs.Rules.{AreWell, IsSo, AreSo, are_distinct, are_covered}
use Rattle.wh_possible_histories.specs.Records.{are_named}
use Rattle.wh_possible_histories.specs.Tellings.{is_stuck, takes, all_take, in_order, are_known, jobs_fit, may_come, IsFreeFrom, rows_known}
use Rattle.wh_possible_histories.specs.NextTasks.{has_begun, starts_in, begun_so, start_once, starts_again, opens_known, untimed_jobs}
use Rattle.wh_possible_histories.specs.NeverSticks.{before_cut, AreRecorded, HasRecords, HistoriesNeverStick}
use Rattle.wh_possible_histories.proofs.Alike.{Sees, sees_same, sees_come, sees_begun, Like, AreAlike, Follows}
use Rattle.wh_possible_histories.proofs.Followed.{timed, time_gives, time_leaves}
use Rattle.wh_promise_check.specs.Kept.{input_in, input_of}
use Rattle.wh_possible_histories.proofs.Pushed.{standing_by, asked_in, joined, standing, phase_is}
use Rattle.wh_possible_histories.proofs.Recorded.{plain_opens, starts_plainly, untouched_first, placed_left, placed_first}
use Rattle.wh_possible_histories.proofs.Activated.{after_reached, Ends, activated}
use Rattle.wh_possible_histories.proofs.Told.{Along, begun_kept, going_told}
use Rattle.wh_possible_histories.proofs.Naming.{names_are}
use Rattle.wh_possible_histories.proofs.Coming.{skip_both, untimed_order, starts_none, signals_known, all_known, signals_fit, outsides_fit, known_push, plain_role, tasks_come, says_both, then_so}

-- no cut follows where no core event does
inert_not_started : (body : EventKind) → is_inert_class (class_of body) ≡ true → is_task_started_kind body ≡ false
inert_not_started kinds.WorkflowTaskStarted is = cc
inert_not_started _ is = refl

module _ {S : Type 0} (code : Program S) where
  no_more : (rest before between : List Event) (current : ReplayResult S) (fault : Fault) → next_core rest ≡ None
      → replay_after code before between rest current ≡ Err fault → ⊥
  no_more [] before between current fault none is = cc
  no_more (event ∷ rest) before between current fault none is =
      by (is_inert event) refl none (λ none is. no_more rest (before ++ event ∷ []) (between ++ event ∷ []) current fault none is) is
    where
      by_cut : (c : Bool) → c ≡ false
          → (if c then and_then (task code before between event rest current) (replay_after code (before ++ event ∷ []) [] rest)
          else replay_after code (before ++ event ∷ []) (between ++ event ∷ []) rest current) ≡ Err fault
          → replay_after code (before ++ event ∷ []) (between ++ event ∷ []) rest current ≡ Err fault
      by_cut true p is = cc
      by_cut false p is = is

      by : (t : Bool) → is_inert event ≡ t → (if t then next_core rest else Some event) ≡ None
          → (next_core rest ≡ None → replay_after code (before ++ event ∷ []) (between ++ event ∷ []) rest current ≡ Err fault → ⊥)
          → (if is_cut event rest then and_then (task code before between event rest current) (replay_after code (before ++ event ∷ []) [] rest)
          else replay_after code (before ++ event ∷ []) (between ++ event ∷ []) rest current) ≡ Err fault → ⊥
      by true p none later is =
          later none (by_cut (is_cut event rest) (ap (λ b. b && lets_cut (next_core rest)) (inert_not_started event.body p)) is)
      by false p none later is = cc

once_left : (before first second : List Event) → start_once before (first ++ second) ≡ true → start_once before first ≡ true
once_left before [] second once = refl
once_left before (event ∷ rest) second once =
    let parts = and_parts (not (starts_again before (role_of event.body))) (start_once (before ++ event ∷ []) (rest ++ second)) once in
    and_from _ _ parts.0 (once_left (before ++ event ∷ []) rest second parts.1)

once_right : (before first second : List Event) → start_once before (first ++ second) ≡ true → start_once (before ++ first) second ≡ true
once_right before [] second once = subst (λ l. start_once l second ≡ true) (sym (append-nil before)) once
once_right before (event ∷ rest) second once =
    let parts = and_parts (not (starts_again before (role_of event.body))) (start_once (before ++ event ∷ []) (rest ++ second)) once in
    subst (λ l. start_once l second ≡ true) (append_assoc before (event ∷ []) rest) (once_right (before ++ event ∷ []) rest second parts.1)

told_of_take : (names : List ThingName) (list : List ThingState) → all_take names list [] ≡ true → all_told list ≡ true
told_of_take [] [] take = refl
told_of_take [] (one ∷ rest) take = cc
told_of_take (name ∷ names) [] take = cc
told_of_take (name ∷ names) (one ∷ rest) take =
    let parts = and_parts (not (is_untold one.phase)) (all_take names rest []) take in
    and_from _ _ parts.0 (told_of_take names rest parts.1)

-- before the first cut nothing is opened

commanded_append : (first second : List Event) → commanded (first ++ second) ≡ commanded first ++ commanded second
commanded_append [] second = refl
commanded_append (event ∷ rest) second = by (is_commanded event) (commanded_append rest second)
  where
    by : (t : Bool) → commanded (rest ++ second) ≡ commanded rest ++ commanded second
        → cond t (event ∷ commanded (rest ++ second)) (commanded (rest ++ second)) ≡ cond t (event ∷ commanded rest) (commanded rest) ++ commanded second
    by true later = ap (λ (l : List Event). event ∷ l) later
    by false later = later

none_left : (first second : List Event) → first ++ second ≡ [] → first ≡ []
none_left [] second is = refl
none_left (event ∷ rest) second is = cc

last_none : (events : List Event) (thing : Thing) (id : List ℕ) → commanded events ≡ [] → last_named events thing id ≡ None
last_none [] thing id none = refl
last_none (event ∷ rest) thing id none = by (is_commanded event) refl none (λ none. last_none rest thing id none)
  where
    both : (a : Option ℕ) (b : Bool) → a ≡ None → b ≡ false → Rattle.wh_events.specs.Machines.or_else a (if b then Some event.number else None) ≡ None
    both a b p q = rw (p, q) refl

    by : (t : Bool) → is_commanded event ≡ t → cond t (event ∷ commanded rest) (commanded rest) ≡ []
        → (commanded rest ≡ [] → last_named rest thing id ≡ None) → last_named (event ∷ rest) thing id ≡ None
    by true p none later = cc
    by false p none later = both (last_named rest thing id) (opens thing id event) (later none) (plain_opens thing id event.body p)

module _ {S : Type 0} (code : Program S) (table : Definition) (names : List ThingName) (lawful : IsLawful (program table)) (distinct : are_distinct names ≡ true)
    (named : are_named names ≡ true) (known : rows_known names table.rows ≡ true) (plain : are_plain table.rows ≡ true)
    (history : List Event) (once_all : start_once [] history ≡ true) (at : ℕ) (fault : WorkflowFault) (Stood : Bool → S → RowsState → Type 0)
    (follows_rows : Follows code table history Stood) where
  abbrev Fails : Result (ReplayResult S) Fault → Type 0
  Fails result = result ≡ Err (WorkflowFaulty at fault)

  -- what holds between the last cut and the next one
  record After (before between rest : List Event) (current : ReplayResult S) : Type 0 where
    context : ActivationContext
    issued : List Command
    run : RowsState
    stood : Stood true current.state run
    now : Situation
    some : 0 < length context.seen
    is : before ≡ context.seen ++ between
    recorded : mismatch history (reduced context issued) (commanded (between ++ before_cut rest)) ≡ None
    so : AreSo context issued names now.things
    wells : AreWell context [] issued
    cover : are_covered names issued ≡ true
    opens : opens_known names context.seen ≡ true
    told : all_told now.things ≡ true
    awaits : now.awaits_version ≡ false
    begun : begun_so (has_begun context.seen) names now.things [] ≡ true
    free : IsFreeFrom table names true run now

  length_some : (before : List Event) (event : Event) → 0 < length (before ++ event ∷ [])
  length_some before event = let size = length_push before event in omega arith

  -- at a cut
  at_cut : (begun : Bool) (before between : List Event) (event : Event) (rest : List Event) (current : ReplayResult S)
      (run : RowsState) (now : Situation)
      → history ≡ before ++ event ∷ rest → is_cut event rest ≡ true
      → (is_recorded rest ≡ true → record_of rest ≡ commanded (before_cut rest))
      → AreSo (context_at before between event rest) [] names now.things → now.awaits_version ≡ false
      → may_come names begun now (untimed_jobs (before ++ event ∷ []) between) ≡ true
      → begun_so (has_begun (before ++ event ∷ [])) names now.things (untimed_jobs (before ++ event ∷ []) between) ≡ true
      → opens_known names (before ++ event ∷ []) ≡ true → Stood begun current.state run
      → (begun ≡ false → (later : List Job)
      × (untimed_jobs (before ++ event ∷ []) between ≡ jobs.Start (workflow_of history) (input_of history) ∷ later))
      → IsFreeFrom table names begun run now
      → ((left : ReplayResult S) → After (before ++ event ∷ []) [] rest left
      → Fails (replay_after code (before ++ event ∷ []) [] rest left) → is_stuck fault ≡ false)
      → Fails (and_then (task code before between event rest current) (replay_after code (before ++ event ∷ []) [] rest))
      → is_stuck fault ≡ false
  unfolding Ends
  at_cut begun before between event rest current run now is cut records so awaits come starts opens stood from free later fails =
      by (activate code context list (begin_at current)) (activate (program table) context shown.0 first)
      (subst (λ result. AreAlike context (Stood true) result (activate (program table) context shown.0 first)) (sym same) shown.2)
      (activated table names lawful distinct known plain context (has_begun (before ++ event ∷ [])) begun shown.0 first now
      (record {
        so = so;
        wells = tt;
        cover = refl;
        take = may.0;
        begun = sees_begun untimed shown.0 shown.1 (has_begun (before ++ event ∷ [])) names now.things starts;
      }) awaits more.0 last.0 last.1 free) fails
    where
      context : ActivationContext
      context = context_at before between event rest

      list : List Job
      list = jobs_of context.seen between event

      untimed : List Job
      untimed = untimed_jobs (before ++ event ∷ []) between

      first : Progress RowsState
      first = record { state = run; script = record { settled = current.settled; issued = [] }; meter = ticked current.meter }

      same : activate code context list (begin_at current)
          ≡ activate code context (jobs.Time event.time ∷ untimed) (begin_at current)
      same =
          ap (λ l. activate code context (jobs.Time event.time ∷ l) (begin_at current))
          (append_assoc (jobs_by start_job between) (jobs_by signal_job between) (jobs_by (outside_job context.seen) between))

      fits : jobs_fit begun untimed ≡ true
      fits =
          let inner = and_parts (all_take names now.things untimed)
          (in_order now.takes_signals untimed && (are_known names untimed && jobs_fit begun untimed)) come in
          let most = and_parts (in_order now.takes_signals untimed) (are_known names untimed && jobs_fit begun untimed) inner.1 in
          (and_parts (are_known names untimed) (jobs_fit begun untimed) most.1).1

      shown : (seen : List Job) × Sees untimed seen
          × AreAlike context (Stood true) (activate code context (jobs.Time event.time ∷ untimed) (begin_at current))
          (activate (program table) context seen first)
      shown = follows_rows context begun event.time untimed current run stood fits from

      may : (all_take names now.things shown.0 ≡ true)
          × ((in_order now.takes_signals shown.0 && (are_known names shown.0 && jobs_fit begun shown.0)) ≡ true)
      may = and_parts _ _ (sees_come untimed shown.0 shown.1 names begun now come)

      more : (in_order now.takes_signals shown.0 ≡ true)
          × ((are_known names shown.0 && jobs_fit begun shown.0) ≡ true)
      more = and_parts _ _ may.1

      last : (are_known names shown.0 ≡ true)
          × (jobs_fit begun shown.0 ≡ true)
      last = and_parts _ _ more.1

      none_after : is_recorded rest ≡ false → next_core rest ≡ None
      none_after off = core (next_core rest) off (and_parts (is_task_started event) (lets_cut (next_core rest)) cut).1
        where
          core : (found : Option Event) → completes found ≡ false → lets_cut found ≡ true → found ≡ None
          core None off lets = refl
          core (Some event) off lets = absurd (both_ways (Rattle.wh_events.specs.Cuts.is_task_completed event) off lets)

      closed : (t : Bool) → is_recorded rest ≡ t → (progress : Progress S) (other : Progress RowsState)
          → Like context (Stood true) progress other
          → Ends table names lawful distinct known plain context (has_begun (before ++ event ∷ [])) begun run now (Ok other)
          → Fails (and_then (close_task (before ++ event ∷ rest) context event.number (if t then Some (record_of rest) else None) progress)
          (replay_after code (before ++ event ∷ []) [] rest)) → is_stuck fault ≡ false
      closed false p progress other like ends fails =
          absurd (no_more code rest (before ++ event ∷ []) [] (reached progress (reduced context progress.script.issued)) (WorkflowFaulty at fault) (none_after p) fails)
      closed true p progress other like ends fails =
          matched (mismatch (before ++ event ∷ rest) (reduced context progress.script.issued) (record_of rest)) refl fails
        where
          matched : (found : Option Mismatch) → mismatch (before ++ event ∷ rest) (reduced context progress.script.issued) (record_of rest) ≡ found
              → Fails (and_then (unless_mismatch event.number found (reached progress [])) (replay_after code (before ++ event ∷ []) [] rest))
              → is_stuck fault ≡ false
          matched (Some difference) q fails = cc
          matched None q fails =
              later (reached progress []) (record {
                context = context;
                issued = other.script.issued;
                run = other.state;
                stood = like.state;
                now = ends.0;
                some = length_some before event;
                is = sym (append-nil (before ++ event ∷ []));
                recorded =
                    subst (λ h. mismatch h (reduced context other.script.issued) (commanded (before_cut rest)) ≡ None) (sym is)
                    (subst (λ r. mismatch (before ++ event ∷ rest) (reduced context other.script.issued) r ≡ None) (records p)
                    (sym (like.records (before ++ event ∷ rest) (record_of rest)) ∙ q));
                so = ends.2.so;
                wells = ends.2.wells;
                cover = ends.2.cover;
                opens = opens;
                told = told_of_take names ends.0.things ends.2.take;
                awaits = ends.3;
                begun = ends.2.begun;
                free = after_reached table names lawful distinct known plain begun true run other.state now ends.0 ends.1 free;
              }) fails

      by : (result : Result (Progress S) WorkflowFault) (other : Result (Progress RowsState) WorkflowFault)
          → AreAlike context (Stood true) result other
          → Ends table names lawful distinct known plain context (has_begun (before ++ event ∷ [])) begun run now other
          → Fails (and_then (task_after (before ++ event ∷ rest) context event.number result) (replay_after code (before ++ event ∷ []) [] rest))
          → is_stuck fault ≡ false
      by (Err one) (Err other) alike ends fails =
          let same : one ≡ fault = cc in ap is_stuck (sym same) ∙ ap is_stuck alike ∙ ends
      by (Ok progress) (Ok other) alike ends fails = closed (is_recorded rest) refl progress other alike ends fails
      by (Ok progress) (Err other) alike ends fails = absurd alike
      by (Err one) (Ok other) alike ends fails = absurd alike

  -- after a cut
  goes_on : (rest before between : List Event) (current : ReplayResult S) → fault_after [] (before ++ rest) ≡ None
      → history ≡ before ++ rest → AreRecorded rest → After before between rest current
      → Fails (replay_after code before between rest current) → is_stuck fault ≡ false
  goes_on [] before between current placed is records after fails = cc
  goes_on (event ∷ rest) before between current placed is records after fails =
      by (is_cut event rest) refl
      (λ between left after fails. goes_on rest (before ++ event ∷ []) between left
      (subst (λ l. fault_after [] l ≡ None) (sym (append_assoc before (event ∷ []) rest)) placed)
      (is ∙ sym (append_assoc before (event ∷ []) rest)) records.1 after fails) after.recorded fails
    where
      up_to : fault_after [] (before ++ event ∷ []) ≡ None
      up_to = placed_left [] (before ++ event ∷ []) rest (subst (λ l. fault_after [] l ≡ None) (sym (append_assoc before (event ∷ []) rest)) placed)

      Later : Type 0
      Later =
          (between : List Event) (left : ReplayResult S) → After (before ++ event ∷ []) between rest left
          → Fails (replay_after code (before ++ event ∷ []) between rest left) → is_stuck fault ≡ false

      since_once : start_once after.context.seen between ≡ true
      since_once =
          once_left after.context.seen between (event ∷ rest)
          (once_right [] after.context.seen (between ++ event ∷ rest)
          (subst (λ l. start_once [] l ≡ true) (is ∙ ap (λ l. l ++ event ∷ rest) after.is ∙ append_assoc after.context.seen between (event ∷ rest)) once_all))

      same_seen : (after.context.seen ++ between) ++ event ∷ [] ≡ before ++ event ∷ []
      same_seen = ap (λ l. l ++ event ∷ []) (sym after.is)

      by : (c : Bool) → is_cut event rest ≡ c → Later
          → mismatch history (reduced after.context after.issued) (commanded (between ++ (if c then [] else event ∷ before_cut rest))) ≡ None
          → Fails (if c then and_then (task code before between event rest current) (replay_after code (before ++ event ∷ []) [] rest)
          else replay_after code (before ++ event ∷ []) (between ++ event ∷ []) rest current) → is_stuck fault ≡ false
      by true cut later recorded fails =
          let next =
          tasks_come after.context after.issued between event (event ∷ rest) (context_at before between event rest).recorded names after.now after.some
          (subst (λ l. fault_after [] l ≡ None) (sym same_seen) up_to) (and_parts (is_task_started event) (lets_cut (Rattle.wh_events.specs.Cuts.next_core rest)) cut).0
          after.wells
          (subst (λ h. mismatch h (reduced after.context after.issued) (commanded between) ≡ None) (is ∙ ap (λ l. l ++ event ∷ rest) after.is)
          (subst (λ l. mismatch history (reduced after.context after.issued) (commanded l) ≡ None) (append-nil between) recorded))
          named since_once after.cover after.opens after.so after.begun after.told after.awaits in
          at_cut true before between event rest current after.run next.1 is cut (records.0 cut)
          (subst (λ l. AreSo (record { seen = l; between = between; recorded = (context_at before between event rest).recorded }) [] names next.1.things) same_seen next.3)
          next.4
          (subst (λ l. may_come names true next.1 (untimed_jobs l between) ≡ true) same_seen next.6)
          (subst (λ l. begun_so (has_begun l) names next.1.things (untimed_jobs l between) ≡ true) same_seen next.7)
          (subst (λ l. opens_known names l ≡ true) same_seen next.5) after.stood (λ is. cc)
          (λ moves last on follows. after.free (NextTask next.0 ∷ moves) last on
          (ap (λ (x : Option Situation). let all : Option Situation = elim x [ Some one ↦ follow table names after.run one moves | None ↦ None ] in all) next.2 ∙ follows))
          (λ left after fails. later [] left after fails) fails
      by false cut later recorded fails =
          later (between ++ event ∷ []) current (record {
            context = after.context;
            issued = after.issued;
            run = after.run;
            stood = after.stood;
            now = after.now;
            some = after.some;
            is = ap (λ l. l ++ event ∷ []) after.is ∙ append_assoc after.context.seen between (event ∷ []);
            recorded =
                subst (λ l. mismatch history (reduced after.context after.issued) (commanded l) ≡ None)
                (sym (append_assoc between (event ∷ []) (before_cut rest))) recorded;
            so = after.so;
            wells = after.wells;
            cover = after.cover;
            opens = after.opens;
            told = after.told;
            awaits = after.awaits;
            begun = after.begun;
            free = after.free;
          }) fails

  -- the first event starts the run
  first_starts : (event : Event) → place_fault [] event ≡ None → is_start event ≡ true
  unfolding place_fault
  first_starts event fits = by (is_start event) (not_faulty _ FirstNotStart (first_none _ _ fits))
    where
      by : (b : Bool) → not (same_test true b) ≡ false → b ≡ true
      by true is = refl
      by false is = cc

  begins_with : (body : EventKind) → is_start_class (class_of body) ≡ true
      → start_job body ≡ jobs.Start (workflow_kind body) (input_in body) ∷ []
  begins_with (kinds.WorkflowExecutionStarted workflow input) is = refl
  begins_with _ is = cc

  start_no_task : (body : EventKind) → is_start_class (class_of body) ≡ true → is_task_started_kind body ≡ true → ⊥
  start_no_task kinds.WorkflowTaskStarted start task = cc
  start_no_task _ start task = cc

  module _ (first : Event) (others : List Event) (event : Event) (placed : fault_after [] ((first ∷ others) ++ event ∷ []) ≡ None)
      (started : is_task_started event ≡ true) (none : commanded (first ∷ others) ≡ []) (once : start_once [] (first ∷ others) ≡ true) where
    abbrev before : List Event
    before = first ∷ others

    abbrev seen : List Event
    seen = before ++ event ∷ []

    before_placed : fault_after [] (first ∷ others) ≡ None
    before_placed = placed_left [] (first ∷ others) (event ∷ []) placed

    none_seen : commanded seen ≡ []
    none_seen =
        commanded_append (first ∷ others) (event ∷ [])
        ∙ ap₂ (λ (a b : List Event). a ++ b) none (ap (λ t. cond t (event ∷ []) []) (starts_plainly event.body started).0)

    nothing_open : (thing : Thing) (id : List ℕ) → is_named thing ≡ true → standing thing id seen ≡ Absent
    nothing_open thing id is =
        ap (λ (o : Option ℕ). standing_by (is_timer thing) (is_some o) (asked_in seen o))
        (open_named_last thing id seen is placed ∙ ap (open_if seen) (last_none seen thing id none_seen))

    first_so : (thing : Thing) (id : List ℕ) (recorded : Option (List Event)) → is_named thing ≡ true
        → IsSo (record { seen = seen; between = before; recorded = recorded }) [] (thing, id) (record { phase = Absent; touch = Untouched; started = false })
    first_so thing id recorded is = (
      sym (phase_is thing id (record { seen = seen; between = before; recorded = recorded })
          ∙ ap₂ (λ (p : Phase) (b : Bool). joined p b) (nothing_open thing id is)
          (ap (λ (o : Option ℕ). has_outside (closer_of seen o) before) (last_none seen thing id none_seen))),
      untouched_first (open_at (record { seen = seen; between = before; recorded = recorded }) thing id),
    )

    all_so : (list : List ThingName) (recorded : Option (List Event)) → are_named list ≡ true
        → AreSo (record { seen = seen; between = before; recorded = recorded }) [] list (none_open list)
    all_so [] recorded is = tt
    all_so (name ∷ list) recorded is =
        let parts = and_parts (is_named name.0) (are_named list) is in
        (first_so name.0 name.1 recorded parts.0, all_so list recorded parts.1)

    along : Along (before ++ []) seen [] (event ∷ []) [] [] before []
    along = record {
      placed = refl;
      fits = before_placed;
      fresh = λ n far. refl;
      is = refl;
      seen_is = refl;
      index = 1;
      match = ap (λ l. mismatch_from (before ++ []) 1 [] l) none;
    }

    event_fits : place_fault before event ≡ None
    event_fits = place_none _ _ _ (placed_first before (event ∷ []) before_placed placed)

    one_comes : (thing : Thing) (id : List ℕ) → is_named thing ≡ true
        → (takes (thing, id) Absent false (untimed_jobs seen before) ≡ true)
        × ((not (false || starts_in (thing, id) (untimed_jobs seen before)) || has_begun seen (thing, id)) ≡ true)
    one_comes thing id is =
        let told_so =
        going_told thing id is (before ++ []) seen [] (event ∷ []) Absent refl false before [] [] [] along refl refl once
        (λ on. cc) (λ on. cc) in
        let ended : told_so.0 ≡ false =
        sym told_so.1 ∙ ap (λ (o : Option ℕ). has_outside (closer_of before o) before) (last_none before thing id none) in (
          skip_both (thing, id) Absent false seen before
              ∙ sym (ap (λ b. takes (thing, id) (cond b Ended Absent) false (jobs_by (outside_job seen) before)) ended) ∙ told_so.2,
          then_so (false || starts_in (thing, id) (untimed_jobs seen before)) (has_begun seen (thing, id))
              (λ said. begun_kept thing id is before event before_placed event_fits
              (plain_opens thing id event.body (starts_plainly event.body started).0)
              (told_so.3 (sym (says_both (thing, id) seen before) ∙ said))),
        )

    all_takes : (list : List ThingName) → are_named list ≡ true
        → (all_take list (none_open list) (untimed_jobs seen before) ≡ true)
        × (begun_so (has_begun seen) list (none_open list) (untimed_jobs seen before) ≡ true)
    all_takes [] is = (refl, refl)
    all_takes (name ∷ list) is =
        let parts = and_parts (is_named name.0) (are_named list) is in
        let one = one_comes name.0 name.1 parts.0 in
        let more = all_takes list parts.1 in
        (and_from _ _ one.0 more.0, and_from _ _ one.1 more.1)

    -- the jobs of the first cut begin with the start
    starts : jobs_by start_job before ≡ jobs.Start (workflow_kind first.body) (input_in first.body) ∷ []
    starts =
        ap₂ (λ (a b : List Job). a ++ b) (begins_with first.body (first_starts first (place_none _ _ _ before_placed)))
        (starts_none (first ∷ []) others (omega arith) (later_none _ _ _ before_placed))

    about : (are_known names (jobs_by (outside_job seen) before) ≡ true) × (opens_known names before ≡ true)
    about = all_known names (before ++ []) seen [] (event ∷ []) before [] [] [] along refl refl

    comes : may_come names false (new_situation names) (untimed_jobs seen before) ≡ true
    comes =
        and_from _ _ (all_takes names named).0
        (and_from _ _ (untimed_order seen before)
        (and_from _ _
        (subst (λ l. are_known names (l ++ (jobs_by signal_job before ++ jobs_by (outside_job seen) before)) ≡ true) (sym starts)
        (signals_known names before (jobs_by (outside_job seen) before) about.0))
        (subst (λ l. jobs_fit false (l ++ (jobs_by signal_job before ++ jobs_by (outside_job seen) before)) ≡ true) (sym starts)
        (signals_fit before (jobs_by (outside_job seen) before) (outsides_fit seen before)))))

    opens_none : opens_known names seen ≡ true
    opens_none = known_push names before event about.1 (ap (Rattle.wh_possible_histories.specs.NextTasks.role_known names) (plain_role event.body started))

  -- before the first cut
  begins : (rest before : List Event) (current : ReplayResult S) (run : RowsState) → fault_after [] (before ++ rest) ≡ None
      → history ≡ before ++ rest → commanded before ≡ [] → commanded (before_cut rest) ≡ [] → AreRecorded rest
      → Stood false current.state run → IsFreeFrom table names false run (new_situation names)
      → Fails (replay_after code before before rest current) → is_stuck fault ≡ false
  begins [] before current run placed is none none_later records stood free fails = cc
  begins (event ∷ rest) before current run placed is none none_later records stood free fails =
      by before (is_cut event rest) refl placed is none none_later free
      (λ before placed is none none_later fails. begins rest (before ++ event ∷ []) current run placed is none none_later records.1 stood free fails) fails
    where
      shift : (before : List Event) → (before ++ event ∷ []) ++ rest ≡ before ++ event ∷ rest
      shift before = append_assoc before (event ∷ []) rest

      Later : Type 0
      Later =
          (before : List Event) → fault_after [] ((before ++ event ∷ []) ++ rest) ≡ None → history ≡ (before ++ event ∷ []) ++ rest
          → commanded (before ++ event ∷ []) ≡ [] → commanded (before_cut rest) ≡ []
          → Fails (replay_after code (before ++ event ∷ []) (before ++ event ∷ []) rest current) → is_stuck fault ≡ false

      inside : (t : Bool) → is_commanded event ≡ t → cond t (event ∷ commanded (before_cut rest)) (commanded (before_cut rest)) ≡ []
          → (is_commanded event ≡ false) × (commanded (before_cut rest) ≡ [])
      inside true p none = cc
      inside false p none = (p, none)

      by : (before : List Event) (c : Bool) → is_cut event rest ≡ c → fault_after [] (before ++ event ∷ rest) ≡ None
          → history ≡ before ++ event ∷ rest → commanded before ≡ []
          → commanded (if c then [] else event ∷ before_cut rest) ≡ [] → IsFreeFrom table names false run (new_situation names)
          → Later
          → Fails (if c then and_then (task code before before event rest current) (replay_after code (before ++ event ∷ []) [] rest)
          else replay_after code (before ++ event ∷ []) (before ++ event ∷ []) rest current) → is_stuck fault ≡ false
      by [] true cut placed is none none_later free later fails =
          absurd (start_no_task event.body (first_starts event (place_none _ _ _ placed)) (and_parts (is_task_started event) (lets_cut (next_core rest)) cut).0)
      by (first ∷ others) true cut placed is none none_later free later fails =
          let up_to : fault_after [] ((first ∷ others) ++ event ∷ []) ≡ None =
          placed_left [] ((first ∷ others) ++ event ∷ []) rest (subst (λ l. fault_after [] l ≡ None) (sym (shift (first ∷ others))) placed) in
          let task_is : is_task_started event ≡ true = (and_parts (is_task_started event) (lets_cut (next_core rest)) cut).0 in
          let once : start_once [] (first ∷ others) ≡ true =
          once_left [] (first ∷ others) (event ∷ rest) (subst (λ l. start_once [] l ≡ true) is once_all) in
          at_cut false (first ∷ others) (first ∷ others) event rest current run (new_situation names) is cut (records.0 cut)
          (all_so first others event up_to task_is none once names (context_at (first ∷ others) (first ∷ others) event rest).recorded named)
          refl (comes first others event up_to task_is none once)
          (all_takes first others event up_to task_is none once names named).1 (opens_none first others event up_to task_is none once) stood
          (λ begun. (
            jobs_by signal_job (first ∷ others) ++ jobs_by (outside_job ((first ∷ others) ++ event ∷ [])) (first ∷ others),
            ap (λ (l : List Job). l ++ (jobs_by signal_job (first ∷ others) ++ jobs_by (outside_job ((first ∷ others) ++ event ∷ [])) (first ∷ others)))
                (starts first others event up_to task_is none once)
                ∙ ap (λ (h : List Event). jobs.Start (workflow_of h) (input_of h)
                ∷ (jobs_by signal_job (first ∷ others) ++ jobs_by (outside_job ((first ∷ others) ++ event ∷ [])) (first ∷ others))) (sym is),
          )) free
          (λ left after fails. goes_on rest ((first ∷ others) ++ event ∷ []) [] left
          (subst (λ l. fault_after [] l ≡ None) (sym (shift (first ∷ others))) placed) (is ∙ sym (shift (first ∷ others))) records.1 after fails)
          fails
      by before false cut placed is none none_later free later fails =
          let parts = inside (is_commanded event) refl none_later in
          later before (subst (λ l. fault_after [] l ≡ None) (sym (shift before)) placed) (is ∙ sym (shift before))
          (commanded_append before (event ∷ []) ∙ ap₂ (λ (a b : List Event). a ++ b) none (ap (λ t. cond t (event ∷ []) []) parts.0)) parts.1 fails

-- a history of a program whose runs are those of a table that never gets stuck
pub never_stick : {S : Type 0} (code : Program S) (table : Definition) → IsLawful (program table) → IsTrue (are_plain table.rows)
    → IsStuckFree table (names_of table) → (events : List Event) → HasRecords events → IsTrue (start_once [] events)
    → (Stood : Bool → S → RowsState → Type 0) → Follows code table events Stood
    → Stood false (code.initial (workflow_of events)) (initial table) → (meter at : ℕ) (fault : WorkflowFault)
    → replay code events meter ≡ Err (WorkflowFaulty at fault) → is_stuck fault ≡ false
unfolding replay_tasks
never_stick {S} code table lawful plain free events records once Stood follows_rows stood meter at fault fails =
    by (history_fault events) refl (code.knows (workflow_of events))
    (replay_after code [] [] events (start code (workflow_of events) meter)) refl fails
  where
    names : List ThingName
    names = names_of table

    parts : ((are_distinct names && are_named names) ≡ true) × ((rows_known names table.rows && are_plain table.rows) ≡ true)
    parts = and_parts (are_distinct names && are_named names) (rows_known names table.rows && are_plain table.rows) (names_are table plain)

    firsts : (are_distinct names ≡ true) × (are_named names ≡ true)
    firsts = and_parts (are_distinct names) (are_named names) parts.0

    seconds : (rows_known names table.rows ≡ true) × (are_plain table.rows ≡ true)
    seconds = and_parts (rows_known names table.rows) (are_plain table.rows) parts.1

    in_place : (events : List Event) → history_fault events ≡ None → fault_after [] events ≡ None
    in_place [] none = cc
    in_place (event ∷ rest) none = none

    by : (found : Option (ℕ × PlaceFault)) → history_fault events ≡ found → (knows : Bool) (result : Result (ReplayResult S) Fault)
        → replay_after code [] [] events (start code (workflow_of events) meter) ≡ result
        → and_then (replay_placed found (replay_known knows result)) (λ left. Ok (with_machines (machines_of events) left)) ≡ Err (WorkflowFaulty at fault)
        → is_stuck fault ≡ false
    by (Some place) p knows result q fails = cc
    by None p false result q fails = let same : UnknownWorkflow ≡ fault = cc in ap is_stuck (sym same)
    by None p true (Ok left) q fails = cc
    by None p true (Err other) q fails =
        let same : other ≡ WorkflowFaulty at fault = cc in
        begins code table names lawful firsts.0 firsts.1 seconds.0 seconds.1 events once at fault Stood follows_rows events []
        (start code (workflow_of events) meter) (initial table) (in_place events p) refl refl records.0 records.1 stood free (q ∙ ap Err same)

-- an activation is like itself
rows_alike : (context : ActivationContext) (one other : Result (Progress RowsState) WorkflowFault) → one ≡ other
    → AreAlike context (λ state run. state ≡ run) one other
rows_alike context one (Ok other) same =
    subst (λ r. AreAlike context (λ state run. state ≡ run) r (Ok other)) (sym same)
    (record { state = refl; records = λ history recorded. refl })
rows_alike context one (Err other) same =
    subst (λ r. AreAlike context (λ state run. state ≡ run) r (Err other)) (sym same) refl

rows_follow : (table : Definition) (events : List Event) → Follows (program table) table events (λ begun state run. state ≡ run)
rows_follow table events context begun time list current run stood fits from = (
  list,
  sees_same list,
  rows_alike context _ _
      (timed (program table) context time list (begin_at current) (time_gives table current.state time)
      ∙ ap (λ state. activate (program table) context list
      (record { state = state; script = record { settled = current.settled; issued = [] }; meter = ticked current.meter }))
      (time_leaves table current.state time ∙ stood)),
)

pub histories_never_stick : (table : Definition) → IsLawful (program table) → HistoriesNeverStick table
histories_never_stick table lawful plain free events records once =
    never_stick (program table) table lawful plain free events records once (λ begun state run. state ≡ run)
    (rows_follow table events) refl
