use Rattle.std.proofs.Common.{◌≡◌, drop}
use Rattle.wh_rows.specs.Rules.{follows}
use Rattle.wh_row_rules.proofs.bounds.follows.Given as goal

-- none of the conditions passed so far implies the wanted one
abbrev pub invariant-loop-condition : goal.invariant-loop-condition
invariant-loop-condition l = follows (drop l.condition-index l.given) l.wanted ≡ follows l.given l.wanted
