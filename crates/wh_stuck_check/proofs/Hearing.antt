-- What a run knows once a job comes.
use Rattle.std.proofs.Common.{◌≡◌, Bool, true, false, List, refl, ◌∙◌}
use Rattle.wh_workflow.specs.declared.job.Job.{Job}
use Rattle.wh_workflow.specs.declared.job.Job.TheVariants as jobs
use Rattle.wh_workflow.specs.declared.job.ActivityEnd.TheVariants as ends
use Rattle.wh_workflow.specs.declared.job.ChildEnd.TheVariants as child_ends
use Rattle.wh_possible_runs.specs.Situations.{ThingName, Situation, after_job}
use Rattle.wh_stuck_check.specs.Private.Seen.{version_given, job_told}

-- it is what a version gives, or what the job tells
pub job_gives : (names : List ThingName) (job : Job) (now : Situation)
    → after_job names job now ≡ elim now.awaits_version [ true ↦ version_given job now | false ↦ job_told names job now ]
job_gives names (jobs.Time _) now = refl
job_gives names (jobs.Start _ _) now = refl
job_gives names (jobs.Signal _ _) now = refl
job_gives names jobs.CancelRequested now = refl
job_gives names (jobs.Activity id (ends.Completed _)) now = refl
job_gives names (jobs.Activity id _) now = refl
job_gives names (jobs.TimerFired id) now = refl
job_gives names (jobs.ChildStarted id) now = refl
job_gives names (jobs.Child id (child_ends.Completed _)) now = refl
job_gives names (jobs.Child id _) now = refl
job_gives names (jobs.CancelSent _) now = refl
job_gives names (jobs.CancelFailed _) now = refl
job_gives names (jobs.SignalSent _ _) now = refl
job_gives names (jobs.SignalFailed _ _) now = refl
job_gives names (jobs.Version _ _) now = refl

chosen : {A : Type 0} (t u : Bool) (x y : A) → t ≡ u
    → ◌≡◌ {A = A} (elim t [ true ↦ x | false ↦ y ]) (elim u [ true ↦ x | false ↦ y ])
chosen true true x y is = refl
chosen false false x y is = refl
chosen true false x y is = cc
chosen false true x y is = cc

-- while a version is awaited
pub awaiting : (names : List ThingName) (job : Job) (now : Situation) → now.awaits_version ≡ true
    → after_job names job now ≡ version_given job now
awaiting names job now is = job_gives names job now ∙ chosen now.awaits_version true (version_given job now) (job_told names job now) is

-- while none is
pub hearing : (names : List ThingName) (job : Job) (now : Situation) → now.awaits_version ≡ false
    → after_job names job now ≡ job_told names job now
hearing names job now is = job_gives names job now ∙ chosen now.awaits_version false (version_given job now) (job_told names job now) is
