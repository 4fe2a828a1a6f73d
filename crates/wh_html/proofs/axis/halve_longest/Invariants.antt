use Rattle.std.proofs.Common.{◌≡◌}
use Rattle.wh_html.specs.Axes.{shortened}
use Rattle.wh_html.proofs.axis.halve_longest.Given as goal

-- the longest has been halved so many times
abbrev pub invariant-loop-halving : goal.invariant-loop-halving
invariant-loop-halving l = l.longest ≡ shortened l.times l.halving l.all
