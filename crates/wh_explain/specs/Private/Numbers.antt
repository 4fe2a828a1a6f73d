-- The jobs of a cut by their parts.
use Rattle.std.specs.Prelude.{List, []}
use Rattle.wh_events.specs.declared.kind.EventKind.{EventKind}
use Rattle.wh_workflow.specs.declared.job.Job.{Job}
use Rattle.wh_workflow.specs.Jobs.{start_job, signal_job, outside_job}
use Rattle.wh_explain.specs.declared.numbers.JobPart.{JobPart}
use Rattle.wh_explain.specs.declared.numbers.JobPart.TheVariants.{Start, Signals, Others}

-- the job of a part that an event of the kind gives; it doesn't depend on the things that jobs name
abbrev pub job_in : JobPart → EventKind → List Job
job_in Start = start_job
job_in Signals = signal_job
job_in Others = outside_job []
