-- Faults and warnings of a table.
use Rattle.std.specs.Prelude.{ℕ, List, ◌++◌, codes, decimal, Option, Some, None}
use Rattle.wh_table_text.specs.declared.fault.TableFault.{TableFault}
use Rattle.wh_table_text.specs.declared.fault.TableFault.TheVariants as faults
use Rattle.wh_table_text.specs.Texts.{fault_text}
use Rattle.wh_table_check.specs.declared.finding.TableFinding.{TableFinding}

-- the row that a fault is about
abbrev pub row_of : TableFault → Option ℕ
row_of (faults.InRow row fault) = Some row
row_of _ = None

-- a fault of a table, as a finding
abbrev pub fault_finding : TableFault → TableFinding
fault_finding fault = record { row = row_of fault; text = fault_text fault }

-- the finding about the row of this number: these words, and a name in that row
abbrev pub finding_at : ℕ → List ℕ → List ℕ → TableFinding
finding_at row words name = record {
  row = Some row;
  text = codes "row " ++ (decimal row ++ (codes ": " ++ (words ++ name)));
}

-- the finding about the whole table: these words, and a name
abbrev pub finding_about : List ℕ → List ℕ → TableFinding
finding_about words name = record { row = None; text = words ++ name }
