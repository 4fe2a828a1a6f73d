use Rattle.std.proofs.Common.{◌≡◌, drop}
use Rattle.wh_html.specs.Axes.{steps_of, steps_from}
use Rattle.wh_html.proofs.axis.steps_of.Given as goal

-- the steps are those so far and those of the times that are left
abbrev pub invariant-loop-time : goal.invariant-loop-time
invariant-loop-time l = steps_of l.times ≡ steps_from l.steps l.before (drop l.time-index l.times)
