use Rattle.std.proofs.Common.{◌≡◌, drop}
use Rattle.wh_events.specs.Cuts.{next_core}
use Rattle.wh_split.proofs.cut.next_core.Given as goal

abbrev pub invariant-loop-event : goal.invariant-loop-event
invariant-loop-event l = next_core (drop l.event-index l.events) ≡ next_core l.events
