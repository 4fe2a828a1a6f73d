use Rattle.std.proofs.Common.{◌≡◌, drop}
use Rattle.wh_policies.specs.Tables.{first_row}
use Rattle.wh_policies.proofs.table.first_row.Given as goal

-- none of the rows before has the name
abbrev pub invariant-loop-row : goal.invariant-loop-row
invariant-loop-row g l = first_row l.name (drop l.row-index l.rows) ≡ first_row l.name l.rows
