use Rattle.std.proofs.Common.{◌≡◌, ◌++◌, drop, map}
use Rattle.wh_possible_runs.specs.Configurations.{all_patterns}
use Rattle.wh_stuck_check.specs.Private.Seen.{name_seen}
use Rattle.wh_stuck_check.proofs.config.all_patterns.Given as goal

-- the patterns so far and those of the rest are all
abbrev pub invariant-loop-name : goal.invariant-loop-name
invariant-loop-name l =
    l.patterns.items ++ all_patterns (map name_seen (drop l.name-index l.names)) ≡ all_patterns (map name_seen l.names)
