-- What the starts among the jobs of a history in place bring.
use Rattle.std.proofs.Common.{◌≡◌, ℕ, zero, suc, ◌-◌, true, not, List, [], ◌∷◌, ◌++◌, take, drop, Option, Some, None, refl, ap, sym, subst, arith, slice_get}
use Rattle.std.specs.Prelude.{if◌then◌else◌}
use Rattle.std.proofs.lemmas.Bool.{and_parts}
use Rattle.wh_events.specs.declared.event.Event.{Event}
use Rattle.wh_events.specs.declared.event.Payload.{Payload}
use Rattle.wh_events.specs.declared.kind.EventKind.{EventKind}
use Rattle.wh_events.specs.declared.kind.EventKind.TheVariants as kinds
use Rattle.wh_events.specs.Kinds.{class_of}
use Rattle.wh_events.specs.Places.{is_start, is_start_class}
use Rattle.wh_events.specs.InPlace.{InPlace}
use Rattle.wh_events.proofs.Placing.{at_index}
use Rattle.wh_machines.specs.Lookups.{events_between}
use Rattle.wh_workflow.specs.declared.job.Job.{Job}
use Rattle.wh_workflow.specs.declared.job.Job.TheVariants as jobs
use Rattle.wh_workflow.specs.Jobs.{start_job, signal_job, outside_job, jobs_by, jobs_of}
use Rattle.wh_workflow.specs.ActivationScripts.{Step, is_version, own_jobs}
use Rattle.wh_activation.specs.Cutting.{jobs_in, jobs_at}
use Rattle.wh_rows.specs.Rows.{is_start as starts_run}
use Rattle.wh_rows.specs.Courses.{goes_on}
use Rattle.wh_table.proofs.Starts.{signals_go, outside_go}
use Rattle.wh_file_page.specs.Brought.{input_in, input_of}

-- a job that starts a run brings this input
abbrev pub HasInput : List Payload → Job → Type 0
HasInput input (jobs.Start kind given) = given ≡ input
HasInput input _ = Unit {0}

-- each of the jobs that starts a run does
abbrev pub AllHave : List Payload → List Job → Type 0
AllHave input [] = Unit {0}
AllHave input (job ∷ later) = HasInput input job × AllHave input later

-- each of the steps
abbrev pub StepsHave : List Payload → List Step → Type 0
StepsHave input [] = Unit {0}
StepsHave input (step ∷ later) = HasInput input step.job × StepsHave input later

all_append : (input : List Payload) (xs ys : List Job) → AllHave input xs → AllHave input ys → AllHave input (xs ++ ys)
all_append input [] ys first second = second
all_append input (x ∷ xs) ys first second = (first.0, all_append input xs ys first.1 second)

all_left : (input : List Payload) (xs ys : List Job) → AllHave input (xs ++ ys) → AllHave input xs
all_left input [] ys has = tt
all_left input (x ∷ xs) ys has = (has.0, all_left input xs ys has.1)

has_none : (input : List Payload) (job : Job) → not (starts_run job) ≡ true → HasInput input job
has_none input (jobs.Start kind given) none = cc
has_none input _ none = tt

all_none : (input : List Payload) (list : List Job) → goes_on list ≡ true → AllHave input list
all_none input [] none = tt
all_none input (job ∷ later) none =
    let parts : (not (starts_run job) ≡ true) × (goes_on later ≡ true) = and_parts (not (starts_run job)) (goes_on later) none in
    (has_none input job parts.0, all_none input later parts.1)

start_has : (input : List Payload) (kind : EventKind) → (is_start_class (class_of kind) ≡ true → input_in kind ≡ input)
    → AllHave input (start_job kind)
start_has input (kinds.WorkflowExecutionStarted workflow given) has = (has refl, tt)
start_has input _ has = tt

starts_have : (input : List Payload) (events : List Event)
    → ((k : ℕ) (event : Event) → slice_get events k ≡ Some event → is_start event ≡ true → input_in event.body ≡ input)
    → AllHave input (jobs_by start_job events)
starts_have input [] each = tt
starts_have input (event ∷ rest) each =
    all_append input (start_job event.body) (jobs_by start_job rest) (start_has input event.body (each 0 event refl))
    (starts_have input rest (λ k later at. each (suc k) later at))

at_dropped : (n : ℕ) (xs : List Event) (k : ℕ) (event : Event) → slice_get (drop n xs) k ≡ Some event
    → (j : ℕ) × (slice_get xs j ≡ Some event)
at_dropped zero xs k event at = (k, at)
at_dropped (suc n) [] k event at = cc
at_dropped (suc n) (x ∷ xs) k event at = let there = at_dropped n xs k event at in (suc there.0, there.1)

at_taken : (n : ℕ) (xs : List Event) (k : ℕ) (event : Event) → slice_get (take n xs) k ≡ Some event
    → slice_get xs k ≡ Some event
at_taken zero xs k event at = cc
at_taken (suc n) [] k event at = cc
at_taken (suc n) (x ∷ xs) zero event at = at
at_taken (suc n) (x ∷ xs) (suc k) event at = at_taken n xs k event at

first_input : (events : List Event) (event : Event) → slice_get events 0 ≡ Some event → input_in event.body ≡ input_of events
first_input [] event at = cc
first_input (first ∷ rest) event at =
    let same : first ≡ event = cc in ap (λ (one : Event). input_in one.body) (sym same)

-- an event of a history in place that starts a run is its first
started_first : (events : List Event) → InPlace events → (k : ℕ) (event : Event) → slice_get events k ≡ Some event
    → is_start event ≡ true → input_in event.body ≡ input_of events
started_first events placed k event at starts =
    let one : suc k ≡ 1 = (placed.started (suc k) event (at_index events k event at)).0 starts in
    let none : k ≡ 0 = omega (arith, one) in
    first_input events event (subst (λ j. slice_get events j ≡ Some event) none at)

between_have : (events : List Event) → InPlace events → (from to : ℕ)
    → AllHave (input_of events) (jobs_by start_job (events_between events from to))
between_have events placed from to =
    starts_have (input_of events) (events_between events from to)
    (λ k event at starts.
    let there = at_dropped from (take (to - 1) events) k event at in
    started_first events placed there.0 event (at_taken (to - 1) events there.0 event there.1) starts)

cut_has : (input : List Payload) (seen between : List Event) (cut : Event) → AllHave input (jobs_by start_job between)
    → AllHave input (jobs_of seen between cut)
cut_has input seen between cut starts = (
  tt,
  all_append input (jobs_by start_job between ++ jobs_by signal_job between) (jobs_by (outside_job seen) between)
      (all_append input (jobs_by start_job between) (jobs_by signal_job between) starts
      (all_none input (jobs_by signal_job between) (signals_go between)))
      (all_none input (jobs_by (outside_job seen) between) (outside_go seen between)),
)

-- each job of a task that starts a run brings the input of the history's first event
pub task_has : (events : List Event) → InPlace events → (from to : ℕ) → AllHave (input_of events) (jobs_at events from to)
task_has events placed from to = by (slice_get events (to - 1))
  where
    by : (cut : Option Event) → AllHave (input_of events) (jobs_in (take to events) (events_between events from to) cut)
    by None = tt
    by (Some cut) =
        cut_has (input_of events) (take to events) (events_between events from to) cut (between_have events placed from to)

one_has : (input : List Payload) (job : Job) (later : List Job) → AllHave input (if is_version job then later else job ∷ later)
    → HasInput input job × AllHave input later
one_has input (jobs.Version change version) later has = (tt, has)
one_has input _ later has = has

own_have : (input : List Payload) (steps : List Step) → AllHave input (own_jobs steps) → StepsHave input steps
own_have input [] has = tt
own_have input (step ∷ later) has =
    let parts = one_has input step.job (own_jobs later) has in (parts.0, own_have input later parts.1)

-- so do the steps whose own jobs these begin with
pub steps_have : (input : List Payload) (steps : List Step) (list later : List Job) → list ≡ own_jobs steps ++ later
    → AllHave input list → StepsHave input steps
steps_have input steps list later are has =
    own_have input steps (all_left input (own_jobs steps) later (subst (AllHave input) are has))
