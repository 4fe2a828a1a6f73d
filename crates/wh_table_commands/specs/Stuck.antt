-- What a check finds of whether a table gets stuck.
use Rattle.std.specs.Prelude.{◌≡◌, Option, Some, None}
use Rattle.wh_row_rules.specs.Broken.{definition}
use Rattle.wh_row_rules.specs.declared.owned.OwnedTable.{OwnedTable}
use Rattle.wh_rows.specs.Tables.{Definition}
use Rattle.wh_stuck_check.specs.Scenarios.{doubt_words, stuck_words}
use Rattle.wh_stuck_check.specs.Verdicts.{IsRight}
use Rattle.wh_stuck_check.specs.declared.verdict.StuckVerdict.{StuckVerdict}
use Rattle.wh_stuck_check.specs.declared.verdict.StuckVerdict.TheVariants as verdicts
use Rattle.wh_table_check.specs.declared.stuck.StuckFinding.{StuckFinding}
use Rattle.wh_table_check.specs.declared.stuck.StuckFinding.TheVariants as found

-- a verdict in words
abbrev pub finding_of : StuckVerdict → StuckFinding
finding_of verdicts.NeverStuck = found.Never
finding_of (verdicts.GetsStuck run) = found.Stuck (stuck_words run)
finding_of (verdicts.NotDecided doubt) = found.NotDecided (doubt_words doubt)

-- a right verdict on a table, in words
pub record IsFound (table : Definition) (finding : StuckFinding) : Type 0 where
  pub verdict : StuckVerdict
  pub right : IsRight table verdict
  pub is : finding ≡ finding_of verdict

-- the same for the table that was read of a file, if there is one
abbrev pub IsFoundOf : Option OwnedTable → StuckFinding → Type 0
IsFoundOf (Some table) finding = IsFound (definition table) finding
IsFoundOf None finding = finding ≡ found.Never
