-- The result of checking the table in a file.
use Rattle.std.specs.Prelude.{ℕ, List, [], ◌++◌, length, nat_eq, Bool, ◌&&◌, Option, Some, None, option_map, if◌then◌else◌}
use Rattle.std.specs.List.{list_all}
use Rattle.serde_json.specs.Data.{Data}
use Rattle.serde_json.specs.View.{view}
use Rattle.wh_row_rules.specs.Promises.{are_kept}
use Rattle.wh_row_rules.specs.declared.owned.OwnedTable.{OwnedTable}
use Rattle.wh_row_rules.specs.declared.promises.PromiseFindings.{PromiseFindings}
use Rattle.wh_table_text.specs.declared.tables.TableReading.{TableReading}
use Rattle.wh_table_check.specs.declared.checking.TableCheck.{TableCheck}
use Rattle.wh_table_check.specs.declared.finding.TableFinding.{TableFinding}
use Rattle.wh_table_check.specs.Causes.{fault_findings}
use Rattle.wh_table_check.specs.Warnings.{rows_warnings}
use Rattle.wh_table_check.specs.Counters.{counter_warnings}
use Rattle.wh_table_check.specs.Promised.{promise_warnings}
use Rattle.wh_table_check.specs.Stuck.{stuck_doubts, stuck_faults}
use Rattle.wh_table_check.specs.declared.stuck.StuckFinding.{StuckFinding}
use Rattle.wh_table_check.specs.Allowed.{allowed_texts, after_allowing}

-- the number of rows of a table
abbrev pub count_of : Option OwnedTable → ℕ
count_of (Some table) = length table.rows
count_of None = 0

-- the warnings for a table that a value in JSON describes: those for its rows, for its counters, for its promises, and
-- that it is not decided whether it gets stuck
abbrev pub raised : OwnedTable → Option Data → PromiseFindings → StuckFinding → List TableFinding
raised table value promises stuck =
    ((rows_warnings table.name table.rows ++ counter_warnings value) ++ promise_warnings table.rows promises)
    ++ stuck_doubts stuck

-- those that the table does not allow
abbrev pub warnings : OwnedTable → Option Data → PromiseFindings → StuckFinding → List TableFinding
warnings table value promises stuck = after_allowing (allowed_texts value) (raised table value promises stuck)

-- those if there is a table
abbrev pub warnings_by : Option OwnedTable → Option Data → PromiseFindings → StuckFinding → List TableFinding
warnings_by (Some table) value promises stuck = warnings table value promises stuck
warnings_by None value promises stuck = []

-- those for what one reading of a file found
abbrev pub warnings_of : TableReading → PromiseFindings → StuckFinding → List TableFinding
warnings_of reading promises stuck = warnings_by reading.table (option_map view reading.value) promises stuck

-- the result for a file of this name, by what one reading of it found, what is found of its promises, and whether it
-- gets stuck
abbrev pub table_check : List ℕ → TableReading → PromiseFindings → StuckFinding → TableCheck
table_check name reading promises stuck = record {
  name = name;
  rows = count_of reading.table;
  faults = fault_findings (option_map view reading.value) reading.faults ++ stuck_faults stuck;
  warnings = warnings_of reading promises stuck;
  promises = promises;
}

-- a table has no fault, and each of its promises is kept
abbrev pub is_good : TableCheck → Bool
is_good own = nat_eq (length own.faults) 0 && are_kept own.promises

-- 0 if each file is good, and else 1
abbrev pub status_of : List TableCheck → ℕ
status_of files = if list_all is_good files then 0 else 1
