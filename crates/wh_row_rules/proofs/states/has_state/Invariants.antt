use Rattle.std.proofs.Common.{◌≡◌, drop}
use Rattle.wh_rows.specs.Rules.{has_state}
use Rattle.wh_row_rules.proofs.states.has_state.Given as goal

-- no row passed so far is for the state
abbrev pub invariant-loop-row : goal.invariant-loop-row
invariant-loop-row l = has_state l.name (drop l.row-index l.rows) ≡ has_state l.name l.rows
