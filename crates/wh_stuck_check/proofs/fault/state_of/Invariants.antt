use Rattle.std.proofs.Common.{◌≡◌, drop, map}
use Rattle.wh_stuck_check.specs.Faults.{state_of}
use Rattle.wh_stuck_check.specs.Private.Seen.{name_seen}
use Rattle.wh_stuck_check.proofs.fault.state_of.Given as goal

-- no name so far is that of the thing
abbrev pub invariant-loop-place : goal.invariant-loop-place
invariant-loop-place l =
    state_of (map name_seen (drop l.place l.names)) l.thing l.id (drop l.place l.things) ≡ state_of (map name_seen l.names) l.thing l.id l.things
