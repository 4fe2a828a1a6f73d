use Rattle.std.proofs.Common.{◌≡◌, ◌++◌, drop, map}
use Rattle.wh_author_tools.specs.Scenarios.{jobs_of, no_job_in}
use Rattle.wh_author_tools.proofs.running.jobs_of.Given as goal

-- the jobs so far and those of the rest, and no part so far is no job
abbrev pub invariant-loop-part : goal.invariant-loop-part
invariant-loop-part l =
    (l.jobs.items ++ jobs_of l.kind (map (λ part. part.now) (drop l.part-index l.parts))
    ≡ jobs_of l.kind (map (λ part. part.now) l.parts))
    × (no_job_in l.kind (map (λ part. part.now) (drop l.part-index l.parts))
    ≡ no_job_in l.kind (map (λ part. part.now) l.parts))
