use Rattle.std.proofs.Common.{◌≡◌, drop}
use Rattle.wh_rows.specs.Rules.{is_led_to}
use Rattle.wh_row_rules.proofs.states.is_led_to.Given as goal

-- no row passed so far leads to the state
abbrev pub invariant-loop-row : goal.invariant-loop-row
invariant-loop-row l = is_led_to l.name (drop l.row-index l.rows) ≡ is_led_to l.name l.rows
