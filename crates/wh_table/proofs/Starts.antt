-- Which of the jobs of a history start a run.
use Rattle.std.proofs.Common.{◌≡◌, true, not, List, [], ◌∷◌, ◌++◌, refl}
use Rattle.std.proofs.lemmas.Bool.{and_parts, and_from}
use Rattle.wh_events.specs.declared.event.Event.{Event}
use Rattle.wh_events.specs.declared.kind.EventKind.{EventKind}
use Rattle.wh_events.specs.declared.kind.EventKind.TheVariants as kinds
use Rattle.wh_workflow.specs.declared.job.Job.{Job}
use Rattle.wh_workflow.specs.Jobs.{signal_job, outside_job, jobs_by}
use Rattle.wh_rows.specs.Rows.{is_start}
use Rattle.wh_rows.specs.Courses.{goes_on}

pub goes_append : (xs ys : List Job) → goes_on xs ≡ true → goes_on ys ≡ true → goes_on (xs ++ ys) ≡ true
goes_append [] ys first second = second
goes_append (x ∷ xs) ys first second =
    let parts : (not (is_start x) ≡ true) × (goes_on xs ≡ true) = and_parts (not (is_start x)) (goes_on xs) first in
    and_from (not (is_start x)) (goes_on (xs ++ ys)) parts.0 (goes_append xs ys parts.1 second)

goes_by : (job : EventKind → List Job) → ((kind : EventKind) → goes_on (job kind) ≡ true) → (events : List Event)
    → goes_on (jobs_by job events) ≡ true
goes_by job one [] = refl
goes_by job one (event ∷ rest) = goes_append (job event.body) (jobs_by job rest) (one event.body) (goes_by job one rest)

signal_goes : (kind : EventKind) → goes_on (signal_job kind) ≡ true
signal_goes (kinds.WorkflowExecutionSignaled name input) = refl
signal_goes _ = refl

outside_goes : (seen : List Event) (kind : EventKind) → goes_on (outside_job seen kind) ≡ true
outside_goes seen (kinds.ActivityTaskFailed number) = refl
outside_goes seen _ = refl

-- the jobs of signals start none
pub signals_go : (events : List Event) → goes_on (jobs_by signal_job events) ≡ true
signals_go events = goes_by signal_job signal_goes events

-- nor do those of what else came from outside
pub outside_go : (seen events : List Event) → goes_on (jobs_by (outside_job seen) events) ≡ true
outside_go seen events = goes_by (outside_job seen) (outside_goes seen) events
