use Rattle.std.proofs.Common.{◌≡◌, drop}
use Rattle.wh_rows.specs.Rows.{after_effects}
use Rattle.wh_rows.proofs.follow.apply.Given as goal

-- what the rest leaves of the state so far is what all leave
abbrev pub invariant-loop-effect : goal.invariant-loop-effect
invariant-loop-effect l =
    after_effects (drop l.effect-index l.effects) l.bounds l.state l.job
    ≡ after_effects l.effects l.bounds l.initial.state l.job
