use Rattle.std.proofs.Common.{◌≡◌, take}
use Rattle.std.specs.List.{fold}
use Rattle.wh_notes.specs.Tallies.{no_failures, sum_of}
use Rattle.wh_crew.proofs.crews.total_tally.Given as goal

abbrev pub invariant-loop-worker : goal.invariant-loop-worker
invariant-loop-worker g l = l.all ≡ fold (λ all worker. sum_of all worker.source.tally) no_failures (take l.worker-index l.left)
