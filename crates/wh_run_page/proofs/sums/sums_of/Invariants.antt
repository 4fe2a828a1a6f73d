use Rattle.std.proofs.Common.{◌≡◌, take}
use Rattle.std.specs.List.{flat_map}
use Rattle.wh_run_page.specs.Sums.{sum_at}
use Rattle.wh_run_page.proofs.sums.sums_of.Given as goal

-- the types so far
abbrev pub invariant-loop-sum : goal.invariant-loop-sum
invariant-loop-sum l = l.all.items ≡ flat_map (sum_at l.view) (take l.sum-index l.view.sums)
