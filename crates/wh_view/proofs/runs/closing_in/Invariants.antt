use Rattle.std.proofs.Common.{◌≡◌, drop}
use Rattle.wh_view.specs.Runs.{closing_in}
use Rattle.wh_view.proofs.runs.closing_in.Given as goal

-- no event passed so far closes the run
abbrev pub invariant-loop-event : goal.invariant-loop-event
invariant-loop-event l = closing_in (drop l.event-index l.events) ≡ closing_in l.events
