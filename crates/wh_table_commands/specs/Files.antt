-- Files of tables.
use Rattle.std.specs.Prelude.{◌≡◌, string_bytes}
use Rattle.wh_console.specs.declared.files.Input.{Input}
use Rattle.wh_diagnostics.specs.Readings.{Gives, IsReadAs}
use Rattle.wh_file_faults.specs.Faults.{File}
use Rattle.wh_table_commands.specs.declared.files.TableFile.{TableFile}

-- a file as that of a table
abbrev pub table_of : File → TableFile
table_of file = record { name = string_bytes file.0; bytes = file.1.items }

-- an input was read as the file of a table
pub record IsTableOf (gives : Gives) (input : Input) (table : TableFile) : Type 0 where
  pub file : File
  pub read : IsReadAs gives input file
  pub is : table ≡ table_of file
