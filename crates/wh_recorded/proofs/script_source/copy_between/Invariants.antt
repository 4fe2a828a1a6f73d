use Rattle.std.proofs.Common.{◌≡◌, ◌++◌, ◌-◌, take, drop}
use Rattle.wh_recorded.proofs.script_source.copy_between.Given as goal

abbrev pub invariant-loop-place : goal.invariant-loop-place
invariant-loop-place l = l.copies.items ++ take (l.stop - l.place) (drop l.place l.events) ≡ take (l.stop - l.begin) (drop l.begin l.events)
