use Rattle.std.proofs.Common.{sym, ◌∙◌}
use Rattle.wh_view.proofs.Closing.{closing_found, closing_passed, closing_nowhere}
use Rattle.wh_view.proofs.runs.closing_in.Goals as goal

pub returns-then-closes_run : goal.returns-then-closes_run
returns-then-closes_run c = sym (closing_found c.args.events.now c.loop-event.event-index c.event-item.result c.loop-event-test.true c.event-item.is (sym c.closes_run.ensures ∙ c.if-closes_run.true)) ∙ c.loop-event.invariant

pub loop-event-preserved : goal.loop-event-preserved
loop-event-preserved c = sym (closing_passed c.args.events.now c.loop-event.event-index c.event-item.result c.loop-event-test.true c.event-item.is (sym c.closes_run.ensures ∙ c.if-closes_run.false)) ∙ c.loop-event.invariant

pub returns : goal.returns
returns c = sym (closing_nowhere c.args.events.now c.loop-event.event-index c.loop-event-test.false) ∙ c.loop-event.invariant
