use Rattle.std.proofs.Common.{rules}
use Rattle.std.proofs.Output.{has_written_append, has_written_of_eq}
use Rattle.wh_page.specs.TaskTexts.{trace_line_html}
use Rattle.wh_html.proofs.Each.{each_more}
use Rattle.wh_page.proofs.tasks.TraceLinesDisplay.fmt.Goals as goal

pub loop-line-preserved : goal.loop-line-preserved
loop-line-preserved g c = λ plain.
    has_written_of_eq _ _ _ _ _
    (each_more trace_line_html c.args.self.now.0.now c.loop-line.line-index c.line-item.result c.loop-line-test.true c.line-item.is)
    (has_written_append _ _ _ _ _ _ (c.loop-line.invariant plain) (search rules))
