use Rattle.std.proofs.Common.{◌≡◌, drop}
use Rattle.wh_table_picture.specs.Layout.{has_row}
use Rattle.wh_table_picture.proofs.layout.has_row.Given as goal

-- none so far is
abbrev pub invariant-loop-row : goal.invariant-loop-row
invariant-loop-row l = has_row (drop l.row-index l.rows) l.number ≡ has_row l.rows l.number
