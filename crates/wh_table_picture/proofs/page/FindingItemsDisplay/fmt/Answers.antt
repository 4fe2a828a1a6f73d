use Rattle.std.proofs.Common.{rules}
use Rattle.std.proofs.Output.{has_written_append, has_written_of_eq}
use Rattle.wh_html.proofs.Each.{each_more}
use Rattle.wh_table_picture.specs.Pages.{item_html}
use Rattle.wh_table_picture.proofs.page.FindingItemsDisplay.fmt.Goals as goal

pub loop-found-preserved : goal.loop-found-preserved
loop-found-preserved g c = λ plain.
    has_written_of_eq _ _ _ _ _
    (each_more item_html c.args.self.now.0.now c.loop-found.found-index c.found-item.result c.loop-found-test.true c.found-item.is)
    (has_written_append _ _ _ _ _ _ (c.loop-found.invariant plain) (search rules))
