-- What a check of tables is, what it writes, and its status.
use Rattle.std.specs.Prelude.{◌≡◌, option_map}
use Rattle.serde_json.specs.View.{view}
use Rattle.wh_console.specs.declared.files.Input.{Input}
use Rattle.wh_console.specs.declared.format.Format.{Format}
use Rattle.wh_diagnostics.specs.Printing.{HasPrinted, status_with}
use Rattle.wh_diagnostics.specs.Readings.{Gives, IsUnread}
use Rattle.wh_diagnostics.specs.Walks.{Silently, Visits}
use Rattle.wh_promise_check.specs.Findings.{AreFindingsOf}
use Rattle.wh_table_check.specs.Checks.{table_check, status_of}
use Rattle.wh_table_check.specs.Texts.{report_as}
use Rattle.wh_table_check.specs.declared.checking.TableCheck.{TableCheck}
use Rattle.wh_table_commands.specs.declared.files.TableFile.{TableFile}
use Rattle.wh_table_commands.specs.Files.{IsTableOf}
use Rattle.wh_table_commands.specs.Stuck.{IsFoundOf}
use Rattle.wh_table_check.specs.declared.stuck.StuckFinding.{StuckFinding}
use Rattle.wh_table_text.specs.TableReadings.{IsReading}
use Rattle.wh_table_text.specs.declared.tables.TableReading.{TableReading}

-- the result of checking the table in a file, by one reading of it, with what is found of its promises and of whether it
-- gets stuck
pub record IsCheckOf (file : TableFile) (reading : TableReading) (own : TableCheck) : Type 0 where
  pub read : IsReading file.bytes reading
  pub promises : AreFindingsOf reading.table (option_map view reading.value) own.promises
  pub stuck : StuckFinding
  pub found : IsFoundOf reading.table stuck
  pub is : own ≡ table_check file.name reading own.promises stuck

-- an input was read as the file of a table, and this is the result of its check
pub record IsChecked (gives : Gives) (input : Input) (own : TableCheck) : Type 0 where
  pub file : TableFile
  pub read : IsTableOf gives input file
  pub reading : TableReading
  pub is : IsCheckOf file reading own

-- `check`: the table in each input is checked, and then the report is written; the status is that of the checks, unless
-- files are lacking
abbrev pub checks : Format → Visits TableCheck
checks format =
    record {
      tells = Silently IsChecked;
      stops = IsUnread;
      ends = λ all lacks. HasPrinted (report_as format all) (status_with lacks (status_of all));
    }
