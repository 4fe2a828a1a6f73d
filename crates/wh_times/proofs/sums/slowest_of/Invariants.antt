use Rattle.std.proofs.Common.{◌≡◌, take, None}
use Rattle.std.specs.List.{fold}
use Rattle.wh_times.specs.Sums.{slower}
use Rattle.wh_times.proofs.sums.slowest_of.Given as goal

-- the slowest so far
abbrev pub invariant-loop-thing : goal.invariant-loop-thing
invariant-loop-thing l = l.best ≡ fold slower None (take l.thing-index l.own)
