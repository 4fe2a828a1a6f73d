use Rattle.std.proofs.Common.{◌≡◌, [], map}
use Rattle.std.specs.Prelude.{replicate}
use Rattle.wh_service.specs.Assignment.{histories_seen}
use Rattle.wh_service.proofs.assignment.no_histories.Given as goal

abbrev pub invariant-loop-worker : goal.invariant-loop-worker
invariant-loop-worker l = map histories_seen l.lists.items ≡ replicate l._worker []
