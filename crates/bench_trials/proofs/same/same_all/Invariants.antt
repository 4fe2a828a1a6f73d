use Rattle.std.proofs.Common.{◌≡◌, take}
use Rattle.bench_trials.proofs.same.same_all.Given as goal

abbrev pub invariant-loop-place : goal.invariant-loop-place
invariant-loop-place g l = take l.place l.left ≡ take l.place l.right
