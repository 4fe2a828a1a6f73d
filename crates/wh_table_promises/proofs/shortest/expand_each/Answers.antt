use Rattle.wh_table_promises.proofs.Fewer.{goes_same, goes_then}
use Rattle.wh_table_promises.proofs.shortest.expand_each.Goals as goal

pub loop-index-init : goal.loop-index-init
loop-index-init c = goes_same _

pub returns-then-not-branch : goal.returns-then-not-branch
returns-then-not-branch c = goes_then _ _ _ c.loop-index.invariant c.in_ok-expand.ensures

pub loop-index-preserved : goal.loop-index-preserved
loop-index-preserved c = goes_then _ _ _ c.loop-index.invariant c.in_ok-expand.ensures
