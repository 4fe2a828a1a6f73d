-- All faults of a JSON text as a table: the first of each part and of each row.
use Rattle.std.specs.Prelude.{◌≡◌, ℕ, ◌+◌, List, [], ◌∷◌, ◌++◌, length, leb, codes, Bool, true, false, Option, Some, None, option_map, option_to_list, slice_get, Result, Ok, Err, if◌then◌else◌}
use Rattle.serde_json.specs.Data.{Data}
use Rattle.wh_json.specs.Fields.{field}
use Rattle.wh_json.specs.Events.{document_within}
use Rattle.wh_rows.specs.Tables.{Row}
use Rattle.wh_rows.specs.Rules.{row_rule, table_fault}
use Rattle.wh_row_rules.specs.declared.fault.RowsFault.{RowsFault}
use Rattle.wh_row_rules.specs.declared.fault.RowsFault.TheVariants as broken_rows
use Rattle.wh_row_rules.specs.declared.owned.OwnedTable.{OwnedTable}
use Rattle.wh_row_rules.specs.Broken.{broken, broken_rule, definition}
use Rattle.wh_table_text.specs.declared.fault.TableFault.{TableFault}
use Rattle.wh_table_text.specs.declared.fault.TableFault.TheVariants as faults
use Rattle.wh_table_text.specs.declared.fault.RowFault.TheVariants as rules
use Rattle.wh_table_text.specs.declared.counters.NamedCounter.{NamedCounter}
use Rattle.wh_table_text.specs.Numbered.{numbered}
use Rattle.wh_row_rules.specs.Outcome.{◌>>=◌, or_fault, passes}
use Rattle.wh_table_text.specs.Reading.{counters_at, is_known, naming_at, or_not_json, row_at, rows_in, shape_of, table_of}

-- the fault of a result, if it is one
abbrev pub fault_in : {A : Type 0} → Result A TableFault → Option TableFault
fault_in (Ok x) = None
fault_in (Err fault) = Some fault

-- there is no fault
abbrev pub is_none : List TableFault → Bool
is_none [] = true
is_none (fault ∷ faults) = false

-- the found faults, or the next ones if there are none
abbrev pub or_next : List TableFault → List TableFault → List TableFault
or_next found next = if is_none found then next else found

-- ---- What can't be read

-- the counters of an object
abbrev pub counters_in : Data → Result (List NamedCounter) TableFault
counters_in d = counters_at (field (codes "counters") (Some d))

-- the rows of an object, if they are at most 200
abbrev pub few_rows : Option (List Data) → Result (List Data) TableFault
few_rows rows = do
  ds ← or_fault faults.NoRows rows
  few ← passes faults.TooManyRows (leb (length ds) 200)
  Ok ds

-- the faults of all members of an object but those within its rows
abbrev pub part_faults : Data → List TableFault
part_faults d =
    option_to_list (fault_in (few_rows (rows_in d)))
    ++ (option_to_list (fault_in (counters_in d))
    ++ option_to_list (fault_in (naming_at (field (codes "name") (Some d)))))

-- the fault of a row that can't be read
abbrev pub unread : List NamedCounter → ℕ → Data → List TableFault
unread names place d = option_to_list (fault_in (row_at names (place + 1) d))

-- the rows of an object
abbrev pub rows_listed : Option (List Data) → List Data
rows_listed None = []
rows_listed (Some ds) = ds

-- the faults of the rows that can't be read, with these counters
abbrev pub unread_rows : Result (List NamedCounter) TableFault → List Data → List TableFault
unread_rows (Ok names) ds = numbered (unread names) 0 ds
unread_rows (Err fault) ds = []

-- the faults of an object that can't be read as a table: those of its rows if its other members have none
abbrev pub shape_faults : Data → List TableFault
shape_faults d =
    if is_known (field (codes "version") (Some d))
    then or_next (part_faults d) (unread_rows (counters_in d) (rows_listed (rows_in d)))
    else faults.UnknownVersion ∷ []

-- ---- What breaks a rule

-- the fault of a row that breaks a rule
abbrev pub breaks : OwnedTable → ℕ → Row → List TableFault
breaks table place row =
    option_to_list
    (option_map (λ rule. faults.InRow (place + 1) (rules.Breaks (broken_rule rule)))
    (row_rule (definition table) place row))

-- the faults of the rows, if the first fault of the table is one of a row
abbrev pub by_first : List TableFault → Option RowsFault → List TableFault
by_first rows None = []
by_first rows (Some broken_rows.BeginsNowhere) = faults.BeginsNowhere ∷ []
by_first rows (Some (broken_rows.InRow row rule)) = rows

-- the faults of a table that break a rule
abbrev pub rule_faults : Result OwnedTable TableFault → List TableFault
rule_faults (Ok table) = by_first (numbered (breaks table) 0 table.rows)
    (option_map broken (table_fault (definition table)))
rule_faults (Err fault) = []

-- ---- All of them

-- the faults of a JSON value: if it can be read as a table, the rules that it breaks
abbrev pub value_faults : Data → List TableFault
value_faults d = or_next (shape_faults d) (rule_faults (shape_of d))

-- the faults of a JSON value, or the fault of a text that is not JSON
abbrev pub document_faults : Result Data TableFault → List TableFault
document_faults (Ok d) = value_faults d
document_faults (Err fault) = fault ∷ []

-- the faults of a JSON text
abbrev pub faults_of : List ℕ → List TableFault
faults_of bytes = document_faults (or_not_json (document_within bytes))

-- the first fault in the list is the one at which reading stops, and the list is empty exactly if reading succeeds
abbrev pub FirstStopsReading : Type 0
FirstStopsReading = (bytes : List ℕ) → slice_get (faults_of bytes) 0 ≡ fault_in (table_of bytes)
