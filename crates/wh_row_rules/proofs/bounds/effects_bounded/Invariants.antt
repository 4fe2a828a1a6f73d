use Rattle.std.proofs.Common.{◌≡◌, drop}
use Rattle.wh_rows.specs.Rules.{effects_bounded}
use Rattle.wh_row_rules.proofs.bounds.effects_bounded.Given as goal

-- each effect passed so far is within the bounds
abbrev pub invariant-loop-effect : goal.invariant-loop-effect
invariant-loop-effect l = effects_bounded l.bounds (drop l.effect-index l.effects) ≡ effects_bounded l.bounds l.effects
