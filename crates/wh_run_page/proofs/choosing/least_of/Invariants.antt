use Rattle.std.proofs.Common.{◌-◌, ◌<◌, ◌≤◌}
use Rattle.wh_run_page.specs.Choices.{weight, count_from}
use Rattle.wh_run_page.proofs.choosing.least_of.Given as goal

-- enough things weigh as much as the lower bound, and fewer as much as the upper one
abbrev pub invariant-loop-low : goal.invariant-loop-low
invariant-loop-low l = record {
  ordered : l.low < l.high;
  within : l.high ≤ 4_611_686_018_427_387_905;
  enough : 300 ≤ count_from (weight l.view l.times l.fault) l.low l.things;
  fewer : count_from (weight l.view l.times l.fault) l.high l.things < 300;
}

-- the bounds come closer
abbrev pub decreases-loop-low : goal.decreases-loop-low
decreases-loop-low l = l.high - l.low
