use Rattle.std.proofs.Common.{subst, sym}
use Rattle.wh_policies.proofs.Keys.{AreKnown, all_known}
use Rattle.wh_policies.proofs.reading.unknown_in.Goals as goal

pub returns : goal.returns
returns g c =
    let known = g.P.FromTable.known in
    all_known known c.args.table.now.entries (c.loop-key.invariant (subst (AreKnown known) (sym c.in-None.ensures.steps.0) tt))
