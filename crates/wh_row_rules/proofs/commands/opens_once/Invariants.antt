use Rattle.std.proofs.Common.{◌≡◌, drop}
use Rattle.wh_rows.specs.Rules.{opens_once}
use Rattle.wh_row_rules.proofs.commands.opens_once.Given as goal

-- no command passed so far is started again
abbrev pub invariant-loop-index : goal.invariant-loop-index
invariant-loop-index l = opens_once (drop l.index l.templates) ≡ opens_once l.templates
