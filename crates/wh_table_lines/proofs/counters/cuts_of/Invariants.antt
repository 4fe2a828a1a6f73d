use Rattle.std.proofs.Common.{◌≡◌, drop, map}
use Rattle.wh_rows.specs.Deciding.{asked}
use Rattle.wh_table_lines.specs.Lines.{line_seen}
use Rattle.wh_table_lines.proofs.counters.cuts_of.Given as goal

-- the rest asks for what all ask for
abbrev pub invariant-loop-line : goal.invariant-loop-line
invariant-loop-line l =
    asked (map line_seen (drop l.line-index l.lines)) l.tops ≡ asked (map line_seen l.lines) (record { a = 0; b = 0; c = 0; d = 0 })
