use Rattle.std.proofs.Common.{◌≡◌, ◌++◌, take}
use Rattle.std.specs.List.{flat_map}
use Rattle.wh_html.specs.Axes.{lane_times}
use Rattle.wh_html.proofs.axis.push_lanes.Given as goal

-- the times of the things so far have been added
abbrev pub invariant-loop-lane : goal.invariant-loop-lane
invariant-loop-lane l = l.times.items ≡ l.initial.times.items ++ flat_map lane_times (take l.lane-index l.lanes)
