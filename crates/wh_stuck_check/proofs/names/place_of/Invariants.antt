use Rattle.std.proofs.Common.{◌≡◌, ◌+◌, drop, map}
use Rattle.wh_stuck_check.specs.Private.Seen.{name_seen, place_named}
use Rattle.wh_stuck_check.proofs.names.place_of.Given as goal

-- no name so far is that of the thing
abbrev pub invariant-loop-place : goal.invariant-loop-place
invariant-loop-place l =
    l.place + place_named l.thing l.id (map name_seen (drop l.place l.names)) ≡ place_named l.thing l.id (map name_seen l.names)
