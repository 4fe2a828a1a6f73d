-- The first fault in the list is the one at which reading stops.
use Rattle.std.proofs.Common.{◌≡◌, ℕ, suc, ◌+◌, Bool, true, false, List, [], ◌∷◌, ◌++◌, length, Option, Some, None, Result, Ok, Err, refl, ap, ◌∙◌, arith}
use Rattle.std.specs.Prelude.{leb, option_map, option_to_list, slice_get, if◌then◌else◌}
use Rattle.serde_json.specs.Data.{Data}
use Rattle.wh_events.specs.Machines.{or_else}
use Rattle.wh_json.specs.declared.fault.ReadFault.{ReadFault}
use Rattle.wh_json.specs.Events.{document_within}
use Rattle.wh_rows.specs.Tables.{Naming, Row}
use Rattle.wh_rows.specs.Rules.{Rule, TableFault as RuleFault, BeginsNowhere, InRow, in_row, row_rule, rows_fault, has_state}
use Rattle.wh_row_rules.specs.declared.owned.OwnedTable.{OwnedTable}
use Rattle.wh_row_rules.specs.Broken.{broken, broken_rule, definition}
use Rattle.wh_table_text.specs.declared.fault.TableFault.{TableFault}
use Rattle.wh_table_text.specs.declared.fault.TableFault.TheVariants as faults
use Rattle.wh_table_text.specs.declared.fault.RowFault.TheVariants as rules
use Rattle.wh_table_text.specs.declared.counters.NamedCounter.{NamedCounter}
use Rattle.wh_table_text.specs.Counters.{bounds_of}
use Rattle.wh_table_text.specs.Numbered.{numbered}
use Rattle.wh_row_rules.specs.Outcome.{◌>>=◌, or_fault, passes, faultless, all_of}
use Rattle.wh_table_text.specs.Reading.{first_state, row_at, rows_from, rows_in, shape_of, table_from, table_of, or_not_json, of_rows, rules_fault}
use Rattle.wh_table_text.specs.Faults.{fault_in, or_next, counters_in, few_rows, rows_listed, unread, unread_rows, shape_faults, breaks, by_first, rule_faults, value_faults, document_faults, FirstStopsReading}

-- ---- Rows that can't be read

-- a value before it changes no fault
in_front : {A : Type 0} (x : A) (rest : Result (List A) TableFault) → fault_in rest ≡ fault_in (rest >>= (λ xs. Ok (x ∷ xs)))
in_front x (Ok xs) = refl
in_front x (Err e) = refl

one_more : (n : ℕ) → n + 1 ≡ suc n
one_more n = omega arith

-- the first of a list that is read, and the others
first_of_list : {A : Type 0} (r : Result A TableFault) (later : List TableFault) (rest : Result (List A) TableFault)
    → slice_get later 0 ≡ fault_in rest
    → slice_get (option_to_list (fault_in r) ++ later) 0 ≡ fault_in (r >>= (λ x. rest >>= (λ xs. Ok (x ∷ xs))))
first_of_list (Ok x) later rest is = is ∙ in_front x rest
first_of_list (Err e) later rest is = refl

next_place : (place : ℕ) → suc place + 1 ≡ place + 1 + 1
next_place place = omega arith

-- the first row that can't be read is the fault of the list
rows_first : (names : List NamedCounter) (place : ℕ) (ds : List Data)
    → slice_get (numbered (unread names) place ds) 0 ≡ fault_in (all_of (rows_from names (place + 1) ds))
unfolding rows_from
rows_first names place [] = refl
rows_first names place (d ∷ ds) =
    first_of_list (row_at names (place + 1) d) (numbered (unread names) (suc place) ds) (all_of (rows_from names (place + 1 + 1) ds))
    (rows_first names (suc place) ds ∙ ap (λ number. fault_in (all_of (rows_from names number ds))) (next_place place))

-- ---- What can't be read

-- a function of the value changes no fault
made : {A B : Type 0} (f : A → B) (r : Result A TableFault) → fault_in r ≡ fault_in (r >>= (λ x. Ok (f x)))
made f (Ok x) = refl
made f (Err e) = refl

-- the list of rows, which is not too long or is, then the counters, the name and the rows
few_first : (few : Bool) (ds : List Data) (counters : Result (List NamedCounter) TableFault) (name : Result Naming TableFault)
    (make : List NamedCounter → Naming → List Row → OwnedTable)
    → slice_get (or_next
    (option_to_list (fault_in (passes faults.TooManyRows few >>= (λ _. Ok ds)))
    ++ (option_to_list (fault_in counters) ++ option_to_list (fault_in name)))
    (unread_rows counters ds)) 0
    ≡ fault_in (passes faults.TooManyRows few >>= (λ _. counters >>= (λ names. name >>= (λ n.
    all_of (rows_from names 1 ds) >>= (λ rows. Ok (make names n rows))))))
few_first false ds counters name make = refl
few_first true ds (Err e) name make = refl
few_first true ds (Ok names) (Err e) make = refl
few_first true ds (Ok names) (Ok n) make =
    rows_first names 0 ds ∙ made (make names n) (all_of (rows_from names 1 ds))

-- the version, whether there are rows, and the others
shape_from : (known : Bool) (rows : Option (List Data)) (counters : Result (List NamedCounter) TableFault)
    (name : Result Naming TableFault) (make : List NamedCounter → Naming → List Row → OwnedTable)
    → slice_get (if known
    then or_next (option_to_list (fault_in (few_rows rows)) ++ (option_to_list (fault_in counters) ++ option_to_list (fault_in name)))
    (unread_rows counters (rows_listed rows))
    else faults.UnknownVersion ∷ []) 0
    ≡ fault_in (passes faults.UnknownVersion known >>= (λ _. or_fault faults.NoRows rows >>= (λ ds.
    passes faults.TooManyRows (leb (length ds) 200) >>= (λ _. counters >>= (λ names. name >>= (λ n.
    all_of (rows_from names 1 ds) >>= (λ rows. Ok (make names n rows))))))))
shape_from false rows counters name make = refl
shape_from true None counters name make = refl
shape_from true (Some ds) counters name make = few_first (leb (length ds) 200) ds counters name make

-- the table of these parts
abbrev table_with : List NamedCounter → Naming → List Row → OwnedTable
table_with names name rows = record { first = first_state rows; name = name; bounds = bounds_of names; rows = rows }

shape_first : (d : Data) → slice_get (shape_faults d) 0 ≡ fault_in (shape_of d)
unfolding shape_of
shape_first d = shape_from _ (rows_in d) (counters_in d) _ table_with

-- ---- What breaks a rule

-- the fault of a row, and the first of the later ones
row_first : (place : ℕ) (found : Option Rule) (later : List TableFault) (rest : Option RuleFault)
    → slice_get later 0 ≡ option_map of_rows (option_map broken rest)
    → slice_get (option_to_list (option_map (λ rule. faults.InRow (place + 1) (rules.Breaks (broken_rule rule))) found) ++ later) 0
    ≡ option_map of_rows (option_map broken (or_else (in_row (suc place) found) rest))
row_first place None later rest is = is
row_first place (Some rule) later rest is = ap (λ number. Some (faults.InRow number (rules.Breaks (broken_rule rule)))) (one_more place)

-- the first row that breaks a rule is the fault of the rows
broken_first : (table : OwnedTable) (place : ℕ) (rows : List Row)
    → slice_get (numbered (breaks table) place rows) 0
    ≡ option_map of_rows (option_map broken (rows_fault (definition table) place rows))
broken_first table place [] = refl
broken_first table place (row ∷ rest) =
    row_first place (row_rule (definition table) place row) (numbered (breaks table) (suc place) rest)
    (rows_fault (definition table) (suc place) rest) (broken_first table (suc place) rest)

-- the rules that a table breaks, if rows are for its first state or not
rules_from : (table : OwnedTable) (begins : Bool) (listed : List TableFault) (found : Option RuleFault)
    → slice_get listed 0 ≡ option_map of_rows (option_map broken found)
    → slice_get (by_first listed (option_map broken (if begins then found else Some BeginsNowhere))) 0
    ≡ option_map of_rows (option_map broken (if begins then found else Some BeginsNowhere))
rules_from table true listed None is = refl
rules_from table true listed (Some BeginsNowhere) is = refl
rules_from table true listed (Some (InRow row rule)) is = is
rules_from table false listed found is = refl

rules_first : (table : OwnedTable) → slice_get (rule_faults (Ok table)) 0 ≡ rules_fault table
rules_first table =
    rules_from table (has_state table.first table.rows) (numbered (breaks table) 0 table.rows) (rows_fault (definition table) 0 table.rows)
    (broken_first table 0 table.rows)

-- ---- All of them

-- the fault of a table that is returned if it has none
kept : (table : OwnedTable) (found : Option TableFault) → found ≡ fault_in (faultless found >>= (λ _. Ok table))
kept table None = refl
kept table (Some fault) = refl

-- the faults of reading, or the rules that the table breaks
value_from : (listed : List TableFault) (shape : Result OwnedTable TableFault) → slice_get listed 0 ≡ fault_in shape
    → slice_get (or_next listed (rule_faults shape)) 0
    ≡ fault_in (shape >>= (λ table. faultless (rules_fault table) >>= (λ _. Ok table)))
value_from [] (Ok table) is = rules_first table ∙ kept table (rules_fault table)
value_from [] (Err fault) is = cc
value_from (one ∷ rest) (Ok table) is = cc
value_from (one ∷ rest) (Err fault) is = is

text_from : (read : Result Data ReadFault)
    → slice_get (document_faults (or_not_json read)) 0
    ≡ fault_in (or_not_json read >>= (λ d. shape_of d >>= (λ table. faultless (rules_fault table) >>= (λ _. Ok table))))
text_from (Ok d) = value_from (shape_faults d) (shape_of d) (shape_first d)
text_from (Err fault) = refl

pub first_stops_reading : FirstStopsReading
unfolding table_of
first_stops_reading bytes = text_from (document_within bytes)

nothing_first : (listed : List TableFault) → slice_get listed 0 ≡ None → listed ≡ []
nothing_first [] is = refl
nothing_first (one ∷ rest) is = cc

-- a value that is a table has no fault
pub faultless_table : (d : Data) (table : OwnedTable) → table_from d ≡ Ok table → value_faults d ≡ []
unfolding table_from
faultless_table d table is =
    nothing_first (value_faults d) (value_from (shape_faults d) (shape_of d) (shape_first d) ∙ ap fault_in is)
