use Rattle.std.proofs.Common.{◌≡◌, map}
use Rattle.wh_service.specs.Rows.{rows_from, failures_from}
use Rattle.wh_service.proofs.outcomes.rows_of.Given as goal

-- the rows and the failed tasks so far are those of the files so far
abbrev pub invariant-loop-file : goal.invariant-loop-file
invariant-loop-file l = record {
  rows : l.rows.items ≡ rows_from (map (λ worker. worker.source) l.workers) 0 l.yielded;
  failures : l.failures.items ≡ failures_from (map (λ worker. worker.source) l.workers) 0 l.yielded;
}
