use Rattle.std.proofs.Common.{◌≡◌, drop}
use Rattle.wh_rows.specs.Rules.{are_ranges}
use Rattle.wh_row_rules.proofs.commands.are_ranges.Given as goal

-- each range passed so far is one
abbrev pub invariant-loop-template : goal.invariant-loop-template
invariant-loop-template l = are_ranges (drop l.template-index l.templates) ≡ are_ranges l.templates
