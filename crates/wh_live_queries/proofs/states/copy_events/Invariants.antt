use Rattle.std.proofs.Common.{◌≡◌, take}
use Rattle.wh_live_queries.proofs.states.copy_events.Given as goal

-- what is copied are the events so far
abbrev pub invariant-loop-event : goal.invariant-loop-event
invariant-loop-event l = l.copies.items ≡ take l.event-index l.events
