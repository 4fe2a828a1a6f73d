use Rattle.std.proofs.Common.{◌≡◌, ◌+◌, drop}
use Rattle.wh_rows.specs.Deciding.{place}
use Rattle.wh_table_lines.proofs.lines.place.Given as goal

-- no row passed so far is for the state
abbrev pub invariant-loop-index : goal.invariant-loop-index
invariant-loop-index l =
    l.index + place l.name (drop l.index l.rows) ≡ place l.name l.rows
