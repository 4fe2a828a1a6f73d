use Rattle.std.proofs.Common.{◌≡◌, drop}
use Rattle.wh_rows.specs.Rules.{hears}
use Rattle.wh_rows.specs.declared.row.JobPattern.TheVariants as patterns
use Rattle.wh_row_rules.proofs.versions.hears_version.Given as goal

-- no row passed so far is for the version
abbrev pub invariant-loop-row : goal.invariant-loop-row
invariant-loop-row l = hears (patterns.Version l.change l.version) l.name (drop l.row-index l.rows) ≡ hears (patterns.Version l.change l.version) l.name l.rows
