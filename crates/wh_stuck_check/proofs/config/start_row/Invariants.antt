use Rattle.std.proofs.Common.{◌≡◌, drop, map}
use Rattle.wh_table_lines.specs.Lines.{line_seen}
use Rattle.wh_stuck_check.specs.Private.Configs.{config_seen, started}
use Rattle.wh_stuck_check.proofs.config.start_row.Given as goal

-- no row so far counts
abbrev pub invariant-loop-line : goal.invariant-loop-line
invariant-loop-line l =
    started (map line_seen (drop l.line-index l.lines)) (config_seen l.one) ≡ started (map line_seen l.lines) (config_seen l.one)
