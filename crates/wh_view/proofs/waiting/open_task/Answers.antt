use Rattle.std.proofs.Common.{◌+◌, sym, ap, ◌∙◌, drop}
use Rattle.wh_view.specs.Waiting.{open_from}
use Rattle.wh_view.proofs.Opened.{open_more, open_all}
use Rattle.wh_view.proofs.waiting.open_task.Goals as goal

pub loop-index-preserved : goal.loop-index-preserved
loop-index-preserved c =
    let i = c.loop-index.index in
    ap (open_from (i + 1) (drop (i + 1) c.args.events.now)) c.task_after-current.ensures
    ∙ sym (open_more c.args.events.now i c.index-events-index.result c.loop-index.current c.loop-index-test.true c.index-events-index.is)
    ∙ c.loop-index.invariant

pub returns : goal.returns
returns c = sym (open_all c.args.events.now c.loop-index.index c.loop-index.current c.loop-index-test.false) ∙ c.loop-index.invariant
