use Rattle.std.proofs.Common.{◌≡◌, take, map}
use Rattle.wh_run_page.specs.Lanes.{lane_of}
use Rattle.wh_run_page.proofs.lanes.lanes_of.Given as goal

-- the lanes of the things so far
abbrev pub invariant-loop-thing : goal.invariant-loop-thing
invariant-loop-thing l = l.all.items ≡ map (lane_of l.view l.times) (take l.thing-index l.placed)
