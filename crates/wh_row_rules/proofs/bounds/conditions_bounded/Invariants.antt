use Rattle.std.proofs.Common.{◌≡◌, drop}
use Rattle.wh_rows.specs.Rules.{conditions_bounded}
use Rattle.wh_row_rules.proofs.bounds.conditions_bounded.Given as goal

-- each condition passed so far is within the bounds
abbrev pub invariant-loop-condition : goal.invariant-loop-condition
invariant-loop-condition l = conditions_bounded l.bounds (drop l.condition-index l.conditions) ≡ conditions_bounded l.bounds l.conditions
