use Rattle.std.proofs.Common.{◌≡◌, ◌≤◌, ◌++◌, drop}
use Rattle.wh_view.specs.Views.{tasks_from}
use Rattle.wh_view.proofs.reading.tasks.Given as goal

-- those so far and those of the rest are those of all; no more tasks are completed than there are events
abbrev pub invariant-loop-event : goal.invariant-loop-event
invariant-loop-event l =
    (l.tasks.items ++ tasks_from l.completed (drop l.event-index l.events) ≡ tasks_from 0 l.events)
    × (l.completed ≤ l.event-index)
