use Rattle.std.proofs.Common.{rules}
use Rattle.std.proofs.Output.{has_written_append, has_written_of_eq}
use Rattle.wh_html.specs.Lanes.{lane_html}
use Rattle.wh_html.proofs.Each.{each_more}
use Rattle.wh_html.proofs.lanes.LaneRowsDisplay.fmt.Goals as goal

pub loop-lane-preserved : goal.loop-lane-preserved
loop-lane-preserved g c = λ plain.
    has_written_of_eq _ _ _ _ _
    (each_more (lane_html c.args.self.now.fault c.args.self.now.stops.now) c.args.self.now.lanes.now c.loop-lane.lane-index c.lane-item.result c.loop-lane-test.true c.lane-item.is)
    (has_written_append _ _ _ _ _ _ (c.loop-lane.invariant plain) (search rules))
