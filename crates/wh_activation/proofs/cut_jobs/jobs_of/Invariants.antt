use Rattle.std.proofs.Common.{◌≡◌, ◌++◌, drop}
use Rattle.wh_workflow.specs.Jobs.{jobs_by, start_job, signal_job, outside_job}
use Rattle.wh_activation.proofs.cut_jobs.jobs_of.Given as goal

abbrev pub invariant-loop-event : goal.invariant-loop-event
invariant-loop-event l =
    (l.jobs.items ++ jobs_by start_job (drop l.event-index l.between) ≡ l.initial.jobs.items ++ jobs_by start_job l.between)
    × (l.signals.items ++ jobs_by signal_job (drop l.event-index l.between) ≡ jobs_by signal_job l.between)
    × (l.others.items ++ jobs_by (outside_job l.seen) (drop l.event-index l.between) ≡ jobs_by (outside_job l.seen) l.between)
