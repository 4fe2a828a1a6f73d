use Rattle.wh_table_promises.proofs.Fewer.{goes_same, goes_then}
use Rattle.wh_table_promises.proofs.shortest.add_each.Goals as goal

pub loop-one-init : goal.loop-one-init
loop-one-init c = goes_same _

pub loop-one-preserved : goal.loop-one-preserved
loop-one-preserved c = goes_then _ _ _ c.loop-one.invariant c.in_ok-add.ensures
