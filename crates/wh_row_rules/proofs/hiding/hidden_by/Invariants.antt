use Rattle.std.proofs.Common.{◌≡◌, drop, suc, ◌-◌, ◌≤◌}
use Rattle.wh_rows.specs.Rules.{hidden_from}
use Rattle.wh_row_rules.proofs.hiding.hidden_by.Given as goal

-- no row passed so far hides the row
abbrev pub invariant-loop-index : goal.invariant-loop-index
invariant-loop-index l = record {
  before : l.index ≤ l.before;
  none : hidden_from (suc l.index) (l.before - l.index) (drop l.index l.rows) l.row ≡ hidden_from 1 l.before l.rows l.row;
}
