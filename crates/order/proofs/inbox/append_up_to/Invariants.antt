use Rattle.std.proofs.Common.{◌≡◌, ◌++◌, drop}
use Rattle.order.specs.Inbox.{events_up_to}
use Rattle.order.proofs.inbox.append_up_to.Given as goal

-- with those that are left it is the whole
abbrev pub invariant-loop-event : goal.invariant-loop-event
invariant-loop-event l =
    l.history.items ++ events_up_to l.up_to (drop l.event-index l.events)
    ≡ l.initial.history.items ++ events_up_to l.up_to l.events
