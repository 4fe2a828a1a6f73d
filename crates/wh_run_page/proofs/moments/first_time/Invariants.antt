use Rattle.std.proofs.Common.{◌≡◌, drop}
use Rattle.wh_run_page.specs.Moments.{first_time}
use Rattle.wh_run_page.proofs.moments.first_time.Given as goal

-- no event so far has a time
abbrev pub invariant-loop-event : goal.invariant-loop-event
invariant-loop-event l = first_time (drop l.event-index l.events) ≡ first_time l.events
