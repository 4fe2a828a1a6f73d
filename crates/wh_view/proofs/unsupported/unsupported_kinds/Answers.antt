use Rattle.std.proofs.Common.{◌+◌, sym, ap, ◌∙◌, drop}
use Rattle.wh_view.specs.Unsupported.{kinds_from}
use Rattle.wh_view.proofs.Listed.{kinds_more, kinds_all}
use Rattle.wh_view.proofs.unsupported.unsupported_kinds.Goals as goal

pub loop-index-preserved : goal.loop-index-preserved
loop-index-preserved c =
    let i = c.loop-index.index in
    ap (kinds_from c.args.events.now (i + 1) (drop (i + 1) c.args.events.now)) c.in_ok-add_kind.ensures
    ∙ sym (kinds_more c.args.events.now c.args.events.now i c.index-events-index.result c.loop-index.kinds.items c.loop-index-test.true c.index-events-index.is)
    ∙ c.loop-index.invariant

pub returns : goal.returns
returns c = sym (kinds_all c.args.events.now c.args.events.now c.loop-index.index c.loop-index.kinds.items c.loop-index-test.false) ∙ c.loop-index.invariant
