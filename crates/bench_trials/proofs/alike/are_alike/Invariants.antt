use Rattle.std.proofs.Common.{◌≡◌, map, take}
use Rattle.bench_trials.proofs.alike.are_alike.Given as goal

abbrev pub invariant-loop-place : goal.invariant-loop-place
invariant-loop-place l = map (λ source. source.answers) (take l.place l.sources) ≡ map (λ source. source.answers) (take l.place l.others)
