use Rattle.std.proofs.Common.{◌≡◌, ◌++◌, drop}
use Rattle.wh_recorded.specs.Rounds.{events_up_to}
use Rattle.wh_recorded.proofs.script_source.copy_up_to.Given as goal

abbrev pub invariant-loop-event : goal.invariant-loop-event
invariant-loop-event l = l.copies.items ++ events_up_to l.up_to (drop l.event-index l.events) ≡ events_up_to l.up_to l.events
