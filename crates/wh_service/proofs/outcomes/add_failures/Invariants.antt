use Rattle.std.proofs.Common.{◌≡◌, ◌++◌}
use Rattle.wh_service.specs.Rows.{failures_in}
use Rattle.wh_service.proofs.outcomes.add_failures.Given as goal

-- the failed tasks so far stand after those that were there
abbrev pub invariant-loop-task : goal.invariant-loop-task
invariant-loop-task l = l.failures.items ≡ l.initial.failures.items ++ failures_in l.file.name l.yielded
