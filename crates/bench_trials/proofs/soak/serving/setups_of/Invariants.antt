use Rattle.std.proofs.Common.{◌≡◌, length, vec_len}
use Rattle.bench_trials.proofs.soak.serving.setups_of.Given as goal

-- a setup for each source so far
abbrev pub invariant-loop-source : goal.invariant-loop-source
invariant-loop-source l = vec_len l.setups ≡ length l.yielded
