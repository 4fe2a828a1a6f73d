use Rattle.std.proofs.Common.{◌≡◌, drop}
use Rattle.wh_rows.specs.Rules.{ends_well}
use Rattle.wh_row_rules.proofs.Ending.{goes_well}
use Rattle.wh_row_rules.proofs.commands.ends_well.Given as goal

-- the commands of the rest decide
abbrev pub invariant-loop-template : goal.invariant-loop-template
invariant-loop-template l = goes_well l.stopped (drop l.template-index l.templates) ≡ ends_well l.templates
