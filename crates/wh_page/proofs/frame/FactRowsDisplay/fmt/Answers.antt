use Rattle.std.proofs.Common.{rules}
use Rattle.std.proofs.Output.{has_written_append, has_written_of_eq}
use Rattle.wh_page.specs.Frames.{fact_html}
use Rattle.wh_html.proofs.Each.{each_more}
use Rattle.wh_page.proofs.frame.FactRowsDisplay.fmt.Goals as goal

pub loop-fact-preserved : goal.loop-fact-preserved
loop-fact-preserved g c = λ plain.
    has_written_of_eq _ _ _ _ _
    (each_more fact_html c.args.self.now.0.now c.loop-fact.fact-index c.fact-item.result c.loop-fact-test.true c.fact-item.is)
    (has_written_append _ _ _ _ _ _ (c.loop-fact.invariant plain) (search rules))
