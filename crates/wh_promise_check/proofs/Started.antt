-- A history in place starts its run by its first event, and by no other.
use Rattle.std.proofs.Common.{◌≡◌, ℕ, Bool, true, false, not, ◌&&◌, List, [], ◌∷◌, ◌++◌, length, Option, Some, None, ℤ, ◌+◌, refl, sym, subst, ◌∙◌}
use Rattle.std.proofs.lemmas.Bool.{and_parts, and_from, not-true, not_from_false}
use Rattle.std.specs.Prelude.{eqb, leb}
use Rattle.wh_events.specs.declared.event.Event.{Event}
use Rattle.wh_events.specs.declared.event.Payload.{Payload}
use Rattle.wh_events.specs.declared.kind.EventKind.{EventKind}
use Rattle.wh_events.specs.declared.kind.EventKind.TheVariants as kinds
use Rattle.wh_events.specs.declared.place.PlaceFault.{PlaceFault}
use Rattle.wh_events.specs.declared.place.PlaceFault.TheVariants as faults
use Rattle.wh_events.specs.Cuts.{is_task_started_kind, is_task_started, is_cut}
use Rattle.wh_events.specs.Kinds.{class_of, role_of}
use Rattle.wh_events.specs.Machines.{or_else}
use Rattle.wh_events.specs.Places.{is_start_class, is_start, is_first, is_over, same_test, fault_if, role_fault, most_events, place_fault, at_place, fault_after, history_fault}
use Rattle.wh_workflow.specs.declared.job.Job.{Job}
use Rattle.wh_workflow.specs.declared.job.Job.TheVariants as jobs
use Rattle.wh_workflow.specs.Jobs.{start_job, signal_job, outside_job, jobs_by, jobs_of}
use Rattle.wh_rows.specs.Rows.{is_start as starts_run}
use Rattle.wh_rows.specs.Courses.{goes_on, begins}
use Rattle.wh_table.proofs.Starts.{goes_append, signals_go, outside_go}
use Rattle.wh_replay.specs.Replays.{workflow_kind}
use Rattle.wh_promise_check.specs.Kept.{all_versions, Interleaved, no_jobs, next_job, input_in}

-- none of the events begins a run
abbrev pub no_starts : List Event → Bool
no_starts [] = true
no_starts (event ∷ rest) = not (is_start event) && no_starts rest

pub no_starts_append : (xs ys : List Event) → no_starts xs ≡ true → no_starts ys ≡ true → no_starts (xs ++ ys) ≡ true
no_starts_append [] ys first second = second
no_starts_append (x ∷ xs) ys first second =
    let parts : (not (is_start x) ≡ true) × (no_starts xs ≡ true) = and_parts (not (is_start x)) (no_starts xs) first in
    and_from (not (is_start x)) (no_starts (xs ++ ys)) parts.0 (no_starts_append xs ys parts.1 second)

first_none : {A : Type 0} (first second : Option A) → or_else first second ≡ None → first ≡ None
first_none None second is = refl
first_none (Some x) second is = is

no_fault : (t : Bool) (fault : PlaceFault) → fault_if t fault ≡ None → t ≡ false
no_fault true fault is = cc
no_fault false fault is = refl

same_from : (a b : Bool) → not (same_test a b) ≡ false → b ≡ a
same_from true true is = refl
same_from true false is = cc
same_from false true is = cc
same_from false false is = refl

-- an event in place begins a run exactly if it is the first one
begins_first : (before : List Event) (event : Event) → place_fault before event ≡ None → is_start event ≡ is_first before
unfolding place_fault
begins_first before event none =
    same_from (is_first before) (is_start event)
    (no_fault (not (same_test (is_first before) (is_start event))) faults.FirstNotStart
    (first_none (fault_if (not (same_test (is_first before) (is_start event))) faults.FirstNotStart)
    (or_else (fault_if (not (eqb event.number (length before + 1))) faults.WrongNumber)
    (or_else (fault_if (is_over before) faults.AfterClose)
    (or_else (role_fault before (role_of event.body)) (fault_if (leb most_events (length before)) faults.TooManyEvents))))
    none))

placed_none : (place : ℕ) (fault : Option PlaceFault) (later : Option (ℕ × PlaceFault)) → at_place place fault later ≡ None
    → (fault ≡ None) × (later ≡ None)
placed_none place None later none = (refl, none)
placed_none place (Some fault) later none = cc

one_more : (before : List Event) (event : Event) → is_first (before ++ event ∷ []) ≡ false
one_more [] event = refl
one_more (first ∷ rest) event = refl

-- events after a first one begin none
none_later : (before rest : List Event) → is_first before ≡ false → fault_after before rest ≡ None → no_starts rest ≡ true
none_later before [] later none = refl
none_later before (event ∷ rest) later none =
    let parts : (place_fault before event ≡ None) × (fault_after (before ++ event ∷ []) rest ≡ None) =
    placed_none (length before + 1) (place_fault before event) (fault_after (before ++ event ∷ []) rest) none in
    and_from (not (is_start event)) (no_starts rest)
    (not_from_false (is_start event) (begins_first before event parts.0 ∙ later))
    (none_later (before ++ event ∷ []) rest (one_more before event) parts.1)

-- a history in place: its first event begins the run
pub record StartsOnce (events : List Event) : Type 0 where
  pub first : Event
  pub rest : List Event
  pub are : events ≡ first ∷ rest
  pub starts : is_start first ≡ true
  pub later : no_starts rest ≡ true

pub starts_once : (events : List Event) → history_fault events ≡ None → StartsOnce events
starts_once [] none = cc
starts_once (event ∷ rest) none =
    let parts : (place_fault [] event ≡ None) × (fault_after (event ∷ []) rest ≡ None) =
    placed_none 1 (place_fault [] event) (fault_after (event ∷ []) rest) none in
    record {
      first = event;
      rest = rest;
      are = refl;
      starts = begins_first [] event parts.0;
      later = none_later (event ∷ []) rest refl parts.1;
    }

kind_no_cut : (kind : EventKind) → is_start_class (class_of kind) ≡ true → is_task_started_kind kind ≡ true → ⊥
kind_no_cut (kinds.WorkflowExecutionStarted workflow input) starts task = cc
kind_no_cut _ starts task = cc

-- an event that begins a run is no cut
pub no_cut : (event : Event) (rest : List Event) → is_start event ≡ true → is_cut event rest ≡ true → ⊥
no_cut event rest starts cut = kind_no_cut event.body starts (and_parts (is_task_started event) _ cut).0

no_start_job : (kind : EventKind) → is_start_class (class_of kind) ≡ false → start_job kind ≡ []
no_start_job (kinds.WorkflowExecutionStarted workflow input) is = cc
no_start_job _ is = refl

-- the job of an event that begins a run
start_is : (kind : EventKind) → is_start_class (class_of kind) ≡ true
    → start_job kind ≡ jobs.Start (workflow_kind kind) (input_in kind) ∷ []
start_is (kinds.WorkflowExecutionStarted workflow input) is = refl
start_is _ is = cc

no_start_jobs : (events : List Event) → no_starts events ≡ true → jobs_by start_job events ≡ []
no_start_jobs [] none = refl
no_start_jobs (event ∷ rest) none =
    let parts : (not (is_start event) ≡ true) × (no_starts rest ≡ true) = and_parts (not (is_start event)) (no_starts rest) none in
    rw (no_start_job event.body (not-true (is_start event) parts.0), no_start_jobs rest parts.1) refl

-- the jobs of a cut except its time and the start
abbrev others : List Event → List Event → List Job
others seen between = jobs_by signal_job between ++ jobs_by (outside_job seen) between

others_go : (seen between : List Event) → goes_on (others seen between) ≡ true
others_go seen between =
    goes_append (jobs_by signal_job between) (jobs_by (outside_job seen) between) (signals_go between)
    (outside_go seen between)

-- if no event between the cuts begins the run, no job starts it
pub cut_goes : (seen between : List Event) (cut : Event) → no_starts between ≡ true → goes_on (jobs_of seen between cut) ≡ true
cut_goes seen between cut none = rw (no_start_jobs between none) (others_go seen between)

versions_go : (versions : List Job) → all_versions versions ≡ true → goes_on versions ≡ true
versions_go [] are = refl
versions_go (jobs.Version change version ∷ rest) are = versions_go rest are
versions_go (_ ∷ rest) are = cc

-- versions after jobs start nothing
pub interleaved_goes : (given list : List Job) → Interleaved given list → goes_on given ≡ true → goes_on list ≡ true
interleaved_goes given list no_jobs go = refl
interleaved_goes given list (next_job job versions rest behind are quiet later) go =
    let parts : (not (starts_run job) ≡ true) × (goes_on rest ≡ true) = and_parts (not (starts_run job)) (goes_on rest) go in
    and_from (not (starts_run job)) (goes_on (versions ++ behind)) parts.0
    (goes_append versions behind (versions_go versions are) (interleaved_goes rest behind later parts.1))

-- the jobs begin with this start, with nothing but the time before it, and none after it starts a run
pub data BeginsWith (workflow : List ℕ) (input : List Payload) : List Job → Type 0 where
  not_begun : BeginsWith workflow input []
  with_start : (later : List Job) → goes_on later ≡ true → BeginsWith workflow input (jobs.Start workflow input ∷ later)
  with_time : (time : ℤ) (later : List Job) → BeginsWith workflow input later → BeginsWith workflow input (jobs.Time time ∷ later)

pub begins_by : (workflow : List ℕ) (input : List Payload) (list : List Job) → BeginsWith workflow input list → begins list ≡ true
begins_by workflow input list not_begun = refl
begins_by workflow input list (with_start later on) = on
begins_by workflow input list (with_time time later next) = begins_by workflow input later next

-- jobs after a start, with nothing but the time before it
starts_then : (workflow : List ℕ) (input : List Payload) (rest list later : List Job)
    → Interleaved (jobs.Start workflow input ∷ rest) list → goes_on rest ≡ true → goes_on later ≡ true
    → BeginsWith workflow input (list ++ later)
starts_then workflow input rest list later (next_job job versions left behind are quiet next) go on =
    with_start ((versions ++ behind) ++ later)
    (goes_append (versions ++ behind) later
    (goes_append versions behind (versions_go versions are) (interleaved_goes rest behind next go)) on)

begins_then : (time : ℤ) (workflow : List ℕ) (input : List Payload) (rest list later : List Job)
    → Interleaved (jobs.Time time ∷ jobs.Start workflow input ∷ rest) list → goes_on rest ≡ true → goes_on later ≡ true
    → BeginsWith workflow input (list ++ later)
begins_then time workflow input rest list later (next_job job versions left behind are quiet next) go on =
    subst (λ versions. BeginsWith workflow input ((jobs.Time time ∷ (versions ++ behind)) ++ later)) (sym (quiet refl))
    (with_time time (behind ++ later) (starts_then workflow input rest behind later next go on))

-- if the first event between the cuts begins the run, and no other does, the jobs of the cut begin with its start
pub cut_begins : (seen : List Event) (first : Event) (between : List Event) (cut : Event) (list later : List Job)
    → is_start first ≡ true → no_starts between ≡ true → Interleaved (jobs_of seen (first ∷ between) cut) list
    → goes_on later ≡ true → BeginsWith (workflow_kind first.body) (input_in first.body) (list ++ later)
cut_begins seen first between cut list later starts none told on =
    let alone : jobs_of seen (first ∷ between) cut
    ≡ jobs.Time cut.time ∷ jobs.Start (workflow_kind first.body) (input_in first.body) ∷ others seen (first ∷ between) =
    rw (start_is first.body starts, no_start_jobs between none) refl in
    begins_then cut.time (workflow_kind first.body) (input_in first.body) (others seen (first ∷ between)) list later
    (subst (λ given. Interleaved given list) alone told) (others_go seen (first ∷ between)) on
