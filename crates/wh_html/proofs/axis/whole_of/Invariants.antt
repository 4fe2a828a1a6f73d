use Rattle.std.proofs.Common.{◌≡◌, drop}
use Rattle.wh_html.specs.Axes.{whole_of, whole_from}
use Rattle.wh_html.proofs.axis.whole_of.Given as goal

-- the whole is that so far and that of the times that are left
abbrev pub invariant-loop-time : goal.invariant-loop-time
invariant-loop-time l = whole_of l.times l.longest ≡ whole_from l.longest l.whole l.before (drop l.time-index l.times)
