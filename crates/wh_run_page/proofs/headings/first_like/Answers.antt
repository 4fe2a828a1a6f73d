use Rattle.std.proofs.Common.{sym, ◌∙◌}
use Rattle.wh_run_page.proofs.Steps.{like_found, like_passed, like_nowhere}
use Rattle.wh_run_page.proofs.headings.first_like.Goals as goal

pub returns-then-is_sought : goal.returns-then-is_sought
returns-then-is_sought c = sym (like_found c.args.sought c.args.events.now c.loop-event.event-index c.event-item.result c.loop-event-test.true c.event-item.is (sym c.is_sought.ensures ∙ c.if-is_sought.true)) ∙ c.loop-event.invariant

pub loop-event-preserved : goal.loop-event-preserved
loop-event-preserved c = sym (like_passed c.args.sought c.args.events.now c.loop-event.event-index c.event-item.result c.loop-event-test.true c.event-item.is (sym c.is_sought.ensures ∙ c.if-is_sought.false)) ∙ c.loop-event.invariant

pub returns : goal.returns
returns c = sym (like_nowhere c.args.sought c.args.events.now c.loop-event.event-index c.loop-event-test.false) ∙ c.loop-event.invariant
