use Rattle.std.proofs.Common.{take}
use Rattle.std.specs.Fmt.{HasWritten, IsPlainFormatter}
use Rattle.wh_html.specs.Html.{bytes, each}
use Rattle.wh_html.specs.Lanes.{lane_html}
use Rattle.wh_html.proofs.lanes.LaneRowsDisplay.fmt.Given as goal

-- the things so far have been written
abbrev pub invariant-loop-lane : goal.invariant-loop-lane
invariant-loop-lane g l =
    IsPlainFormatter l.initial.f → HasWritten g.W.Write.write_str_gives l.initial.f (bytes (each (lane_html l.fn.self.fault l.fn.self.stops.now) (take l.lane-index l.lane-items))) l.f
