use Rattle.std.proofs.Common.{◌≡◌, drop}
use Rattle.wh_rows.specs.Courses.{goes_on}
use Rattle.wh_table_promises.proofs.ways.goes_on.Given as goal

-- none so far starts the run
abbrev pub invariant-loop-job : goal.invariant-loop-job
invariant-loop-job l =
    goes_on (drop l.job-index l.jobs) ≡ goes_on l.jobs
