use Rattle.std.proofs.Common.{◌<◌, length}
use Rattle.wh_stuck_check.proofs.found.slot_of.Given as goal

-- the slot is one of them
abbrev pub invariant-loop-step : goal.invariant-loop-step
invariant-loop-step l =
    l.slot < length l.slots
