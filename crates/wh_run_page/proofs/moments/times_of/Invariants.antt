use Rattle.std.proofs.Common.{◌≡◌, ◌++◌, drop}
use Rattle.wh_run_page.specs.Moments.{times_from, times_of}
use Rattle.wh_run_page.proofs.moments.times_of.Given as goal

-- the times so far and those of the rest are those of all
abbrev pub invariant-loop-event : goal.invariant-loop-event
invariant-loop-event l = l.times.items ++ times_from l.before (drop l.event-index l.events) ≡ times_of l.events
