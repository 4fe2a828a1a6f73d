use Rattle.std.proofs.Common.{rules}
use Rattle.std.proofs.Output.{has_written_append, has_written_of_eq}
use Rattle.wh_page.specs.Sums.{sum_html}
use Rattle.wh_html.proofs.Each.{each_more}
use Rattle.wh_page.proofs.sums.SumRowsDisplay.fmt.Goals as goal

pub loop-sum-preserved : goal.loop-sum-preserved
loop-sum-preserved g c = λ plain.
    has_written_of_eq _ _ _ _ _
    (each_more sum_html c.args.self.now.0.now c.loop-sum.sum-index c.sum-item.result c.loop-sum-test.true c.sum-item.is)
    (has_written_append _ _ _ _ _ _ (c.loop-sum.invariant plain) (search rules))
