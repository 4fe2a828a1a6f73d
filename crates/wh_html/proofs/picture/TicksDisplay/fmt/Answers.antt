use Rattle.std.proofs.Common.{rules}
use Rattle.std.proofs.Output.{has_written_append, has_written_of_eq}
use Rattle.wh_html.specs.Pictures.{tick_html}
use Rattle.wh_html.proofs.Each.{each_more}
use Rattle.wh_html.proofs.picture.TicksDisplay.fmt.Goals as goal

pub loop-task-preserved : goal.loop-task-preserved
loop-task-preserved g c = λ plain.
    has_written_of_eq _ _ _ _ _
    (each_more (tick_html c.args.self.now.0.now) c.args.self.now.1.now c.loop-task.task-index c.task-item.result c.loop-task-test.true c.task-item.is)
    (has_written_append _ _ _ _ _ _ (c.loop-task.invariant plain) (search rules))
