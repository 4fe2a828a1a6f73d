use Rattle.std.proofs.Common.{◌≡◌, take}
use Rattle.wh_times.specs.Sums.{known_times}
use Rattle.wh_times.proofs.sums.times_of.Given as goal

-- the times so far
abbrev pub invariant-loop-thing : goal.invariant-loop-thing
invariant-loop-thing l = l.times.items ≡ known_times (take l.thing-index l.own)
