use Rattle.std.proofs.Common.{◌≡◌, take}
use Rattle.std.specs.List.{flat_map}
use Rattle.wh_run_page.specs.Causes.{trace_of}
use Rattle.wh_run_page.proofs.causes.traces_of.Given as goal

-- the stack traces of the failures so far
abbrev pub invariant-loop-failure : goal.invariant-loop-failure
invariant-loop-failure l = l.all.items ≡ flat_map trace_of (take l.failure-index l.failures)
