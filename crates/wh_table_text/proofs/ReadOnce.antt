-- What a reading of a file has, by what its JSON was read as.
use Rattle.std.proofs.Common.{◌≡◌, ℕ, List, Some, None, Result, Ok, Err, refl, ap, ◌∙◌, sym}
use Rattle.std.specs.Prelude.{Option, option_map, option_to_list, IfOk}
use Rattle.std.specs.Result.{result_ok}
use Rattle.serde_json.specs.Data.{Data}
use Rattle.serde_json.specs.View.{view}
use Rattle.serde_json.specs.declared.value.Value.{Value}
use Rattle.wh_events.specs.declared.memory.OutOfMemory.{OutOfMemory}
use Rattle.wh_json.specs.declared.fault.ReadFault.{ReadFault}
use Rattle.wh_json.specs.Events.{document_within}
use Rattle.wh_row_rules.specs.declared.owned.OwnedTable.{OwnedTable}
use Rattle.wh_table_text.specs.declared.fault.TableFault.{TableFault}
use Rattle.wh_row_rules.specs.Outcome.{◌>>=◌, faultless}
use Rattle.wh_table_text.specs.Reading.{shape_of, table_from, table_of, or_not_json, rules_fault}
use Rattle.wh_table_text.specs.Faults.{value_faults, document_faults, faults_of}
use Rattle.wh_table_text.specs.TableReadings.{IsReading}
use Rattle.wh_table_text.specs.declared.tables.TableReading.{TableReading}

value_as : (read : Result Data ReadFault) (d : Data) → or_not_json read ≡ Ok d → result_ok read ≡ Some d
value_as (Ok other) d is = cc
value_as (Err fault) d is = cc

no_value : (read : Result Data ReadFault) (fault : TableFault) → or_not_json read ≡ Err fault → result_ok read ≡ None
no_value (Ok other) fault is = cc
no_value (Err other) fault is = refl

module _ (bytes : List ℕ) where
  -- the value, the table and the faults of bytes that are JSON are those of their value
  pub value_is : (d : Data) → or_not_json (document_within bytes) ≡ Ok d → result_ok (document_within bytes) ≡ Some d
  value_is d is = value_as (document_within bytes) d is

  pub table_is : (d : Data) → or_not_json (document_within bytes) ≡ Ok d → table_of bytes ≡ table_from d
  unfolding table_of table_from
  table_is d is =
      ap (λ read. read >>= (λ value. shape_of value >>= (λ table. faultless (rules_fault table) >>= (λ _. Ok table)))) is

  pub faults_are : (d : Data) → or_not_json (document_within bytes) ≡ Ok d → faults_of bytes ≡ value_faults d
  faults_are d is = ap document_faults is

  -- and bytes that are not JSON have none, no table, and that fault
  pub value_lacks : (fault : TableFault) → or_not_json (document_within bytes) ≡ Err fault
      → result_ok (document_within bytes) ≡ None
  value_lacks fault is = no_value (document_within bytes) fault is

  pub table_lacks : (fault : TableFault) → or_not_json (document_within bytes) ≡ Err fault → table_of bytes ≡ Err fault
  unfolding table_of
  table_lacks fault is =
      ap (λ read. read >>= (λ value. shape_of value >>= (λ table. faultless (rules_fault table) >>= (λ _. Ok table)))) is

  pub faults_lack : (fault : TableFault) → or_not_json (document_within bytes) ≡ Err fault
      → faults_of bytes ≡ document_faults (Err fault)
  faults_lack fault is = ap document_faults is

  -- what the value of these bytes has is a reading of them
  pub read_as : (value : Value) (result : Result TableReading OutOfMemory) → or_not_json (document_within bytes) ≡ Ok (view value)
      → IfOk result (λ reading. reading.value ≡ Some value)
      → IfOk result (λ reading. reading.table ≡ result_ok (table_from (view value)))
      → IfOk result (λ reading. reading.faults ≡ value_faults (view value))
      → IfOk result (IsReading bytes)
  read_as value (Ok reading) is valued tabled faulty = record {
    value = ap (option_map view) valued ∙ sym (value_is (view value) is);
    table = tabled ∙ ap result_ok (sym (table_is (view value) is));
    faults = faulty ∙ sym (faults_are (view value) is);
  }
  read_as value (Err full) is valued tabled faulty = tt

  -- so is that there is neither value nor table, but the one fault, where they are not JSON
  pub unread_as : (fault : TableFault) (faults : List TableFault) → or_not_json (document_within bytes) ≡ Err fault
      → faults ≡ option_to_list (Some fault) → IsReading bytes (record { value = None; table = None; faults = faults })
  unread_as fault faults is only = record {
    value = sym (value_lacks fault is);
    table = ap result_ok (sym (table_lacks fault is));
    faults = only ∙ sym (faults_lack fault is);
  }
