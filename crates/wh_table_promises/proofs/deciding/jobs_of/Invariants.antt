use Rattle.std.proofs.Common.{◌≡◌, ◌++◌, drop, map, Some}
use Rattle.wh_table_promises.specs.Ways.{job_read}
use Rattle.wh_table_promises.proofs.deciding.jobs_of.Given as goal

-- the jobs so far and those of the rest are all
abbrev pub invariant-loop-text : goal.invariant-loop-text
invariant-loop-text l =
    map (λ job. Some job) l.jobs.items ++ map job_read (drop l.text-index l.words) ≡ map job_read l.words
