-- The jobs of a cut of a history, by its number.
use Rattle.std.specs.Prelude.{ℕ, ◌-◌, List, [], ◌∷◌, take, Option, Some, None, slice_get}
use Rattle.wh_events.specs.declared.event.Event.{Event}
use Rattle.wh_machines.specs.Lookups.{events_between}
use Rattle.wh_workflow.specs.declared.job.Job.{Job}
use Rattle.wh_workflow.specs.Jobs.{jobs_of}

-- the jobs of a cut, if there is one
abbrev pub jobs_in : List Event → List Event → Option Event → List Job
jobs_in seen between None = []
jobs_in seen between (Some cut) = jobs_of seen between cut

-- the jobs of the cut with the second number; the first is that of the cut before, or 0 if there is none
abbrev pub jobs_at : List Event → ℕ → ℕ → List Job
jobs_at events from to = jobs_in (take to events) (events_between events from to) (slice_get events (to - 1))

-- the list of an optional value
abbrev pub listed : {A : Type 0} → Option A → List A
listed None = []
listed (Some x) = x ∷ []
