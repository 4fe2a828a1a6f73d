use Rattle.std.proofs.Common.{rules}
use Rattle.std.proofs.Output.{has_written_append, has_written_of_eq}
use Rattle.wh_html.proofs.Each.{each_more_or}
use Rattle.wh_table_picture.specs.Pictures.{taken_html}
use Rattle.wh_table_picture.proofs.legend.TakenRowsDisplay.fmt.Goals as goal

pub loop-row-preserved : goal.loop-row-preserved
loop-row-preserved g c = λ plain.
    has_written_of_eq _ _ _ _ _
    (each_more_or taken_html c.args.self.now.0.now c.loop-row.row-index 0 c.loop-row-test.true)
    (has_written_append _ _ _ _ _ _ (c.loop-row.invariant plain) (search rules))
