-- What one reading of a file finds of the table that it is to be.
use Rattle.std.specs.Prelude.{◌≡◌, ℕ, List, option_map}
use Rattle.std.specs.Result.{result_ok}
use Rattle.serde_json.specs.View.{view}
use Rattle.wh_json.specs.Events.{document_within}
use Rattle.wh_table_text.specs.declared.tables.TableReading.{TableReading}
use Rattle.wh_table_text.specs.Reading.{table_of}
use Rattle.wh_table_text.specs.Faults.{faults_of}

-- a reading of bytes: their JSON value, the table that they describe, and all their faults as a table
pub record IsReading (bytes : List ℕ) (reading : TableReading) : Type 0 where
  pub value : option_map view reading.value ≡ result_ok (document_within bytes)
  pub table : reading.table ≡ result_ok (table_of bytes)
  pub faults : reading.faults ≡ faults_of bytes
