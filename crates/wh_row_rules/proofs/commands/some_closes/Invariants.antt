use Rattle.std.proofs.Common.{◌≡◌, drop}
use Rattle.wh_rows.specs.Rows.{some_closes}
use Rattle.wh_row_rules.proofs.commands.some_closes.Given as goal

-- no command passed so far closes the run
abbrev pub invariant-loop-template : goal.invariant-loop-template
invariant-loop-template l = some_closes (drop l.template-index l.templates) ≡ some_closes l.templates
