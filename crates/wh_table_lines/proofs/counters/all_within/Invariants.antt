use Rattle.std.proofs.Common.{◌≡◌, drop, map}
use Rattle.wh_rows.specs.Deciding.{all_within}
use Rattle.wh_table_lines.specs.Lines.{line_seen}
use Rattle.wh_table_lines.proofs.counters.all_within.Given as goal

-- each so far is
abbrev pub invariant-loop-line : goal.invariant-loop-line
invariant-loop-line l =
    all_within l.many l.tops (map line_seen (drop l.line-index l.lines)) ≡ all_within l.many l.tops (map line_seen l.lines)
