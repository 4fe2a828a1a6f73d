use Rattle.std.proofs.Common.{◌≡◌, drop, map}
use Rattle.wh_possible_runs.specs.Shown.{has_name}
use Rattle.wh_stuck_check.specs.Private.Seen.{name_seen}
use Rattle.wh_stuck_check.proofs.names.has_name.Given as goal

-- no name so far is that of the thing
abbrev pub invariant-loop-name : goal.invariant-loop-name
invariant-loop-name l =
    has_name (map name_seen (drop l.name-index l.names)) l.thing l.id ≡ has_name (map name_seen l.names) l.thing l.id
