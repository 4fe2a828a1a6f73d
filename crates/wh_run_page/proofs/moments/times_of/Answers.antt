use Rattle.std.proofs.Common.{sym, ◌∙◌}
use Rattle.wh_run_page.proofs.Steps.{times_all}
use Rattle.wh_run_page.proofs.moments.times_of.Goals as goal

pub returns : goal.returns
returns c = sym (times_all c.args.events.now c.loop-event.event-index c.loop-event.before c.loop-event.times.items c.loop-event-test.false) ∙ c.loop-event.invariant
