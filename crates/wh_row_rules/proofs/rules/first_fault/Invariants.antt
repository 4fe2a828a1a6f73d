use Rattle.std.proofs.Common.{◌≡◌, drop}
use Rattle.wh_rows.specs.Rules.{rows_fault}
use Rattle.wh_row_rules.specs.Broken.{definition}
use Rattle.wh_row_rules.proofs.rules.first_fault.Given as goal

-- no row passed so far breaks a rule
abbrev pub invariant-loop-index : goal.invariant-loop-index
invariant-loop-index l = rows_fault (definition l.table) l.index (drop l.index l.rows) ≡ rows_fault (definition l.table) 0 l.rows
