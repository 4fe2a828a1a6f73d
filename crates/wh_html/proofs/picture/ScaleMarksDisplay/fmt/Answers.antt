use Rattle.std.proofs.Common.{None, false, rules}
use Rattle.std.proofs.Output.{has_written_append, has_written_of_eq}
use Rattle.wh_html.specs.Pictures.{stop_html}
use Rattle.wh_html.proofs.Each.{each_more_or}
use Rattle.wh_html.proofs.picture.ScaleMarksDisplay.fmt.Goals as goal

pub loop-stop-preserved : goal.loop-stop-preserved
loop-stop-preserved g c = λ plain.
    has_written_of_eq _ _ _ _ _
    (each_more_or (stop_html c.args.self.now.bottom c.args.self.now.first) c.args.self.now.stops.now c.loop-stop.stop-index
    (record { millis = 0; x = 0; gap = None; marked = false }) c.loop-stop-test.true)
    (has_written_append _ _ _ _ _ _ (c.loop-stop.invariant plain) (search rules))
