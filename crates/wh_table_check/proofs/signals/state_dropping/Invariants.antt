use Rattle.std.proofs.Common.{◌≡◌, drop}
use Rattle.wh_table_check.specs.Signals.{state_dropping}
use Rattle.wh_table_check.proofs.signals.state_dropping.Given as goal

-- the signal is dropped after no row passed so far
abbrev pub invariant-loop-row : goal.invariant-loop-row
invariant-loop-row l = state_dropping l.name l.all (drop l.row-index l.rows) ≡ state_dropping l.name l.all l.rows
