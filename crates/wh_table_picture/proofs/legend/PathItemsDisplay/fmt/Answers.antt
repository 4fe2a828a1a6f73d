use Rattle.std.proofs.Common.{rules}
use Rattle.std.proofs.Output.{has_written_append, has_written_of_eq}
use Rattle.wh_html.proofs.Each.{each_more}
use Rattle.wh_table_picture.specs.Pictures.{path_html}
use Rattle.wh_table_picture.proofs.legend.PathItemsDisplay.fmt.Goals as goal

pub loop-path-preserved : goal.loop-path-preserved
loop-path-preserved g c = λ plain.
    has_written_of_eq _ _ _ _ _
    (each_more path_html c.args.self.now.0.now c.loop-path.path-index c.path-item.result c.loop-path-test.true c.path-item.is)
    (has_written_append _ _ _ _ _ _ (c.loop-path.invariant plain) (search rules))
