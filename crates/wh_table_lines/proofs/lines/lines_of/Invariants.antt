use Rattle.std.proofs.Common.{◌≡◌, ◌++◌, drop, map}
use Rattle.wh_rows.specs.Deciding.{lines}
use Rattle.wh_table_lines.specs.Lines.{line_seen}
use Rattle.wh_table_lines.proofs.lines.lines_of.Given as goal

-- those so far and those of the rest are all
abbrev pub invariant-loop-row : goal.invariant-loop-row
invariant-loop-row l =
    map line_seen l.all.items ++ lines l.rows (drop l.row-index l.rows) ≡ lines l.rows l.rows
