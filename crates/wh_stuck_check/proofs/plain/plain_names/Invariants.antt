use Rattle.std.proofs.Common.{◌≡◌, drop, map}
use Rattle.wh_possible_runs.specs.Shown.{plain_names}
use Rattle.wh_stuck_check.specs.Private.Seen.{name_seen}
use Rattle.wh_stuck_check.proofs.plain.plain_names.Given as goal

-- the names so far are plain
abbrev pub invariant-loop-name : goal.invariant-loop-name
invariant-loop-name l =
    plain_names (map name_seen (drop l.name-index l.names)) ≡ plain_names (map name_seen l.names)
