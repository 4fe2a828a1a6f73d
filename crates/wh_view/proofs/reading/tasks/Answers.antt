use Rattle.std.proofs.Common.{sym, ◌∙◌}
use Rattle.wh_view.proofs.Gathered.{task_more, task_all}
use Rattle.wh_view.proofs.reading.tasks.Goals as goal

pub returns : goal.returns
returns c = sym (task_all c.args.events.now c.loop-event.event-index c.loop-event.completed c.loop-event.tasks.items c.loop-event-test.false) ∙ c.loop-event.invariant.0
