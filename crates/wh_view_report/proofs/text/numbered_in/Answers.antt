use Rattle.std.proofs.Common.{sym, ◌∙◌}
use Rattle.wh_view_report.proofs.Numbered.{number_found, number_passed, number_nowhere}
use Rattle.wh_view_report.proofs.text.numbered_in.Goals as goal

pub returns-then-has_number : goal.returns-then-has_number
returns-then-has_number c = sym (number_found c.args.events.now c.loop-event.event-index c.args.number c.event-item.result c.loop-event-test.true c.event-item.is (sym c.has_number.ensures ∙ c.if-has_number.true)) ∙ c.loop-event.invariant

pub loop-event-preserved : goal.loop-event-preserved
loop-event-preserved c = sym (number_passed c.args.events.now c.loop-event.event-index c.args.number c.event-item.result c.loop-event-test.true c.event-item.is (sym c.has_number.ensures ∙ c.if-has_number.false)) ∙ c.loop-event.invariant

pub returns : goal.returns
returns c = sym (number_nowhere c.args.events.now c.loop-event.event-index c.args.number c.loop-event-test.false) ∙ c.loop-event.invariant
