use Rattle.std.proofs.Common.{◌≡◌, drop}
use Rattle.wh_table_check.specs.Warnings.{has_way_out}
use Rattle.wh_table_check.proofs.warning.has_way_out.Given as goal

-- no row passed so far leads out
abbrev pub invariant-loop-row : goal.invariant-loop-row
invariant-loop-row l = has_way_out l.name (drop l.row-index l.rows) ≡ has_way_out l.name l.rows
