use Rattle.std.proofs.Common.{◌≡◌, drop, map}
use Rattle.wh_stuck_check.specs.Faults.{fault_from}
use Rattle.wh_stuck_check.specs.Private.Seen.{name_seen, situation_seen}
use Rattle.wh_stuck_check.proofs.fault.fault_in.Given as goal

-- no command so far is at fault
abbrev pub invariant-loop-place : goal.invariant-loop-place
invariant-loop-place l =
    fault_from l.place (map name_seen l.names) (drop l.place l.commands) (situation_seen l.now)
    ≡ fault_from 0 (map name_seen l.names) l.commands (situation_seen l.initial.now)
