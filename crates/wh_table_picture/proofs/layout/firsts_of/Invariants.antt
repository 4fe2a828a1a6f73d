use Rattle.std.proofs.Common.{◌≡◌, take, map}
use Rattle.wh_table_picture.specs.Layout.{first_of}
use Rattle.wh_table_picture.proofs.layout.firsts_of.Given as goal

-- those of the rows so far
abbrev pub invariant-loop-row : goal.invariant-loop-row
invariant-loop-row l = l.firsts.items ≡ map (λ row. first_of row.state l.rows) (take l.row-index l.rows)
