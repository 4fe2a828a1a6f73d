use Rattle.std.proofs.Common.{◌≡◌, drop}
use Rattle.wh_rows.specs.Rules.{opens_again}
use Rattle.wh_row_rules.proofs.commands.opens_again.Given as goal

-- no command passed so far starts the same
abbrev pub invariant-loop-other : goal.invariant-loop-other
invariant-loop-other l = opens_again l.template (drop l.other-index l.rest) ≡ opens_again l.template l.rest
