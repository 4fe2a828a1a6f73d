use Rattle.std.proofs.Common.{◌≡◌, drop}
use Rattle.wh_rows.specs.Rules.{all_follow}
use Rattle.wh_row_rules.proofs.bounds.all_follow.Given as goal

-- each condition passed so far follows
abbrev pub invariant-loop-condition : goal.invariant-loop-condition
invariant-loop-condition l = all_follow l.given (drop l.condition-index l.wanted) ≡ all_follow l.given l.wanted
