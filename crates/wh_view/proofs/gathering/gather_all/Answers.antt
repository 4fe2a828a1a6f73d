use Rattle.std.proofs.Common.{◌+◌, sym, ap, ◌∙◌, drop}
use Rattle.wh_view.specs.Things.{gathered_from}
use Rattle.wh_view.proofs.Gathered.{gather_more, gather_all}
use Rattle.wh_view.proofs.gathering.gather_all.Goals as goal

pub loop-at-preserved : goal.loop-at-preserved
loop-at-preserved c =
    let i = c.loop-at.at in
    ap (gathered_from (i + 1) (drop (i + 1) c.args.events.now)) c.in_ok-take.ensures
    ∙ sym (gather_more c.args.events.now i c.index-events-at.result c.loop-at.gathering c.loop-at-test.true c.index-events-at.is)
    ∙ c.loop-at.invariant

pub returns : goal.returns
returns c = sym (gather_all c.args.events.now c.loop-at.at c.loop-at.gathering c.loop-at-test.false) ∙ c.loop-at.invariant
