use Rattle.std.proofs.Common.{◌≡◌, drop}
use Rattle.wh_rows.specs.Rules.{are_heard}
use Rattle.wh_row_rules.proofs.versions.are_heard.Given as goal

-- each version asked for so far is heard
abbrev pub invariant-loop-template : goal.invariant-loop-template
invariant-loop-template l = are_heard l.name l.rows (drop l.template-index l.templates) ≡ are_heard l.name l.rows l.templates
