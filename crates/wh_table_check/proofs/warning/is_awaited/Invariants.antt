use Rattle.std.proofs.Common.{◌≡◌, drop}
use Rattle.wh_table_check.specs.Warnings.{is_awaited}
use Rattle.wh_table_check.proofs.warning.is_awaited.Given as goal

-- no row passed so far waits for it
abbrev pub invariant-loop-row : goal.invariant-loop-row
invariant-loop-row l = is_awaited l.template (drop l.row-index l.rows) ≡ is_awaited l.template l.rows
