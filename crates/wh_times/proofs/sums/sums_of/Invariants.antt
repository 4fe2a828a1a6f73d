use Rattle.std.proofs.Common.{take, filter}
use Rattle.std.specs.List.{AllZip}
use Rattle.wh_times.specs.Sums.{IsOwnSum, is_first}
use Rattle.wh_times.proofs.sums.sums_of.Given as goal

-- the sums so far are those of the first things so far
abbrev pub invariant-loop-typed : goal.invariant-loop-typed
invariant-loop-typed l = AllZip (IsOwnSum l.things) (filter (is_first l.things) (take l.typed-index l.things)) l.all.items
