-- Which events give the jobs of a task.
use Rattle.std.specs.Prelude.{ℕ, ◌-◌, List, [], ◌∷◌, ◌++◌, map, drop, Bool, true, false, Option, Some, None, slice_get, if◌then◌else◌}
use Rattle.wh_events.specs.declared.event.Event.{Event}
use Rattle.wh_events.specs.declared.kind.EventKind.{EventKind}
use Rattle.wh_machines.specs.Lookups.{events_between}
use Rattle.wh_workflow.specs.declared.job.Job.{Job}
use Rattle.wh_workflow.specs.declared.job.Job.TheVariants.{Version}
use Rattle.wh_workflow.specs.Jobs.{start_job, signal_job, outside_job}

-- the numbers of the events that give jobs, once for each job, in the order of `jobs_by`
abbrev pub numbers_by : (EventKind → List Job) → List Event → List ℕ
numbers_by job [] = []
numbers_by job (event ∷ rest) = map (λ _. event.number) (job event.body) ++ numbers_by job rest

-- the numbers for the jobs of a cut, in the order of `jobs_of`, where the cut itself gives the time; they don't depend
-- on the things that jobs name
abbrev pub numbers_of : List Event → Event → List ℕ
numbers_of between cut =
    cut.number ∷ (numbers_by start_job between ++ numbers_by signal_job between ++ numbers_by (outside_job []) between)

abbrev pub numbers_in : List Event → Option Event → List ℕ
numbers_in between None = []
numbers_in between (Some cut) = numbers_of between cut

-- the numbers for the jobs of a cut, in the order of `jobs_at`
abbrev pub numbers_at : List Event → (from to : ℕ) → List ℕ
numbers_at events from to =
    numbers_in (events_between events from to) (slice_get events (to - 1))

-- the job is the answer to a request for a version, so no event gave it
abbrev pub is_answer : Job → Bool
is_answer (Version _ _) = true
is_answer _ = false

-- the number of the event that gave the job, by the numbers for this job and the jobs after it
abbrev pub number_of : Job → List ℕ → Option ℕ
number_of job left = if is_answer job then None else slice_get left 0

-- the numbers that are left for the jobs after it
abbrev pub left_after : Job → List ℕ → List ℕ
left_after job left = if is_answer job then left else drop 1 left
