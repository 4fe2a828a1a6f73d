use Rattle.std.proofs.Common.{◌∙◌, ◌++◌, ◌∷◌, [], ap}
use Rattle.wh_run_page.proofs.Steps.{placed_more}
use Rattle.wh_run_page.proofs.rows.placed_things.Goals as goal

pub loop-index-preserved : goal.loop-index-preserved
loop-index-preserved c =
    placed_more c.args.view.now c.args.all.now c.args.firsts.now c.loop-index.index c.index-all-index.result c.loop-index.placed.items
    c.push.new.self.items c.loop-index-test.true c.index-all-index.is
    (c.in_ok-push.ensures.items ∙ ap (λ one. c.loop-index.placed.items ++ one ∷ []) c.placed_at.ensures)
    ∙ c.loop-index.invariant
