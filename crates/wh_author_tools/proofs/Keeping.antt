-- Later jobs do not change a source that is made.
use Rattle.std.proofs.Common.{◌≡◌, ℕ, ℤ, List, [], ◌∷◌, ◌++◌, Some}
use Rattle.wh_workflow.specs.declared.job.Job.{Job}
use Rattle.wh_workflow.specs.declared.job.Job.TheVariants.{Time, Start}
use Rattle.wh_author_tools.specs.Sources.{source_after, JobsKeepTheSource}

pub jobs_keep : JobsKeepTheSource
jobs_keep time [] later state is = cc
jobs_keep time (Time now ∷ jobs) later state is = jobs_keep now jobs later state is
jobs_keep time (Start workflow input ∷ jobs) later state is = is
jobs_keep time (_ ∷ jobs) later state is = jobs_keep time jobs later state is
