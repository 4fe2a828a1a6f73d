use Rattle.std.proofs.Common.{◌≡◌, true, drop, map}
use Rattle.wh_table_lines.specs.Lines.{line_seen}
use Rattle.wh_possible_runs.specs.Shown.{has, is_closed}
use Rattle.wh_stuck_check.specs.Private.Seen.{name_seen}
use Rattle.wh_stuck_check.specs.Private.Configs.{config_seen}
use Rattle.wh_stuck_check.proofs.found.is_closed.Given as goal

-- all are closed if the rest is
abbrev pub invariant-loop-one : goal.invariant-loop-one
invariant-loop-one l =
    is_closed (map name_seen l.rules.names.now) l.rules.tops (map line_seen l.rules.lines.now)
    (has (map config_seen l.configs)) (map config_seen (drop l.one-index l.list)) ≡ true
    → is_closed (map name_seen l.rules.names.now) l.rules.tops (map line_seen l.rules.lines.now)
    (has (map config_seen l.configs)) (map config_seen l.list) ≡ true
