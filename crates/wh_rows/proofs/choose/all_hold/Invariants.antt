use Rattle.std.proofs.Common.{◌≡◌, drop}
use Rattle.wh_rows.specs.Rows.{all_hold}
use Rattle.wh_rows.proofs.choose.all_hold.Given as goal

-- each condition passed so far holds
abbrev pub invariant-loop-condition : goal.invariant-loop-condition
invariant-loop-condition l = all_hold (drop l.condition-index l.conditions) l.counts ≡ all_hold l.conditions l.counts
