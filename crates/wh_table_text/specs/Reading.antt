-- How a JSON text (RFC 8259) is read as a table.
use Rattle.std.specs.Prelude.{ℕ, ◌+◌, ℤ, pos, List, [], ◌∷◌, length, map, codes, leb, Bool, false, Option, Some, None, option_map, option_and_then, Result, Ok, Err}
use Rattle.std.specs.Ordering.{int_eq}
use Rattle.serde_json.specs.Data.{Data}
use Rattle.serde_json.specs.Find.{as_str, as_number, as_i64, at}
use Rattle.wh_json.specs.declared.fault.ReadFault.{ReadFault}
use Rattle.wh_json.specs.Fields.{field, list_in}
use Rattle.wh_json.specs.Events.{document_within}
use Rattle.wh_rows.specs.declared.row.Condition.{Condition}
use Rattle.wh_rows.specs.declared.row.RowEffect.{RowEffect}
use Rattle.wh_rows.specs.declared.row.Naming.TheVariants as namings
use Rattle.wh_rows.specs.Tables.{JobPattern, CommandTemplate, Naming, Row}
use Rattle.wh_rows.specs.Rules.{table_fault}
use Rattle.wh_row_rules.specs.declared.fault.RowsFault.{RowsFault}
use Rattle.wh_row_rules.specs.declared.fault.RowsFault.TheVariants as broken_rows
use Rattle.wh_row_rules.specs.declared.owned.OwnedTable.{OwnedTable}
use Rattle.wh_row_rules.specs.Broken.{broken, definition}
use Rattle.wh_table_text.specs.declared.fault.TableFault.{TableFault}
use Rattle.wh_table_text.specs.declared.fault.TableFault.TheVariants as faults
use Rattle.wh_table_text.specs.declared.fault.RowFault.TheVariants as rules
use Rattle.wh_table_text.specs.declared.counters.NamedCounter.{NamedCounter}
use Rattle.wh_row_rules.specs.Outcome.{◌>>=◌, or_fault, passes, faultless, all_of}
use Rattle.wh_table_text.specs.Words.{phrase}
use Rattle.wh_table_text.specs.Verbs.{job_verb, command_verb}
use Rattle.wh_table_text.specs.Phrases.{pattern_of, template_of, condition_of, effect_of, naming_of}
use Rattle.wh_table_text.specs.Counters.{counter_of, bounds_of}

-- ---- Phrases

-- the text of a value, or the fault if it is not a text
abbrev pub text_at : TableFault → Data → Result (List ℕ) TableFault
text_at fault d = or_fault fault (as_str d)

-- a text as the only phrase of a list, which is empty if the text is
abbrev pub one_phrase : List ℕ → List (List ℕ)
one_phrase [] = []
one_phrase (c ∷ cs) = (c ∷ cs) ∷ []

-- the texts of a value that is a list
abbrev pub texts_of : TableFault → Data → Result (List (List ℕ)) TableFault
texts_of fault d = do
  items ← or_fault fault (list_in d)
  all_of (map (text_at fault) items)

-- the phrases of a value that is this text, or else a list
abbrev pub text_or_texts : TableFault → Option (List ℕ) → Data → Result (List (List ℕ)) TableFault
text_or_texts fault (Some text) d = Ok (one_phrase text)
text_or_texts fault None d = texts_of fault d

-- the phrases of a member: a text, or a list of texts. There are none if it is omitted
abbrev pub phrases_at : TableFault → Option Data → Result (List (List ℕ)) TableFault
phrases_at fault None = Ok []
phrases_at fault (Some d) = text_or_texts fault (as_str d) d

-- ---- A row

-- the text of a member of a row, empty if it is omitted
abbrev pub text_in : ℕ → Option Data → Result (List ℕ) TableFault
text_in row None = Ok []
text_in row (Some d) = text_at (faults.InRow row rules.NotText) d

-- the text of the member at an index
unfoldable pub cell : ℕ → ℕ → Data → Result (List ℕ) TableFault
cell row index d = text_in row (at index d)

-- the jobs that a text describes
unfoldable pub job_at : ℕ → List ℕ → Result JobPattern TableFault
job_at row text = do
  verb ← or_fault (faults.InRow row rules.UnknownJob) (job_verb (phrase text).verb)
  or_fault (faults.InRow row rules.UnknownJob) (pattern_of verb (phrase text))

-- the command that a text describes
unfoldable pub template_at : ℕ → List ℕ → Result CommandTemplate TableFault
template_at row text = do
  verb ← or_fault (faults.InRow row rules.UnknownCommand) (command_verb (phrase text).verb)
  or_fault (faults.InRow row rules.BadCommand) (template_of verb (phrase text))

-- the commands of a row
unfoldable pub templates_at : ℕ → Option Data → Result (List CommandTemplate) TableFault
templates_at row value = do
  texts ← phrases_at (faults.InRow row rules.NotText) value
  all_of (map (template_at row) texts)

-- the phrases of the conditions, or of the marks, of a row: at most 16
unfoldable pub few_phrases : ℕ → Option Data → Result (List (List ℕ)) TableFault
few_phrases row value = do
  texts ← phrases_at (faults.InRow row rules.NotText) value
  few ← passes (faults.InRow row rules.TooManyPhrases) (leb (length texts) 16)
  Ok texts

-- the condition that a text describes
unfoldable pub condition_at : List NamedCounter → ℕ → List ℕ → Result Condition TableFault
condition_at names row text = or_fault (faults.InRow row rules.UnknownCondition) (condition_of names (phrase text))

-- the conditions of a row
unfoldable pub conditions_at : List NamedCounter → ℕ → Option Data → Result (List Condition) TableFault
conditions_at names row value = do
  texts ← few_phrases row value
  all_of (map (condition_at names row) texts)

-- the mark that a text describes
unfoldable pub effect_at : List NamedCounter → ℕ → List ℕ → Result RowEffect TableFault
effect_at names row text = or_fault (faults.InRow row rules.UnknownMark) (effect_of names (phrase text))

-- the marks of a row
unfoldable pub effects_at : List NamedCounter → ℕ → Option Data → Result (List RowEffect) TableFault
effects_at names row value = do
  texts ← few_phrases row value
  all_of (map (effect_at names row) texts)

-- a list of at most six members
abbrev pub is_short : Option (List Data) → Bool
is_short None = false
is_short (Some items) = leb (length items) 6

-- a list of at most six members
abbrev pub is_short_list : Data → Bool
is_short_list d = is_short (list_in d)

-- the name of the next state: the text, or `same` if it is empty
abbrev pub or_same : List ℕ → List ℕ
or_same [] = codes "same"
or_same (c ∷ cs) = c ∷ cs

-- the row that a value describes
unfoldable pub row_at : List NamedCounter → ℕ → Data → Result Row TableFault
row_at names row d = do
  short ← passes (faults.InRow row rules.NotARow) (is_short_list d)
  state ← cell row 0 d
  text ← cell row 1 d
  job ← job_at row text
  conditions ← conditions_at names row (at 2 d)
  gives ← templates_at row (at 3 d)
  next ← cell row 4 d
  effects ← effects_at names row (at 5 d)
  Ok (record {
    state = state;
    job = job;
    conditions = conditions;
    gives = gives;
    effects = effects;
    next = or_same next;
  })

-- the rows that the values of a list describe; the first one has this number
unfoldable pub rows_from : List NamedCounter → ℕ → List Data → List (Result Row TableFault)
rows_from names row [] = []
rows_from names row (d ∷ ds) = row_at names row d ∷ rows_from names (row + 1) ds

-- ---- A table

-- the number is 1
abbrev pub is_one : Option ℤ → Bool
is_one None = false
is_one (Some number) = int_eq number (pos 1)

-- the version is the number 1
abbrev pub is_known : Option Data → Bool
is_known value = is_one (option_and_then (λ d. option_and_then as_i64 (as_number d)) value)

-- the counter that a text describes
abbrev pub counter_in : List ℕ → Result NamedCounter TableFault
counter_in text = counter_of (phrase text)

-- the counters of a table
unfoldable pub counters_at : Option Data → Result (List NamedCounter) TableFault
counters_at value = do
  texts ← phrases_at faults.BadCounters value
  few ← passes faults.BadCounters (leb (length texts) 4)
  all_of (map counter_in texts)

-- how the runs of a table are named
unfoldable pub naming_at : Option Data → Result Naming TableFault
naming_at None = Ok namings.Nameless
naming_at (Some d) = do
  text ← text_at faults.BadName d
  or_fault faults.BadName (naming_of (phrase text))

-- the list `rows` of an object
abbrev pub rows_in : Data → Option (List Data)
rows_in d = option_and_then list_in (field (codes "rows") (Some d))

-- the state of the first row, empty if there is none
abbrev pub first_state : List Row → List ℕ
first_state [] = []
first_state (row ∷ rows) = row.state

-- the table of a JSON value; its rows may still break a rule
unfoldable pub shape_of : Data → Result OwnedTable TableFault
shape_of d = do
  known ← passes faults.UnknownVersion (is_known (field (codes "version") (Some d)))
  ds ← or_fault faults.NoRows (rows_in d)
  few ← passes faults.TooManyRows (leb (length ds) 200)
  names ← counters_at (field (codes "counters") (Some d))
  name ← naming_at (field (codes "name") (Some d))
  rows ← all_of (rows_from names 1 ds)
  Ok (record { first = first_state rows; name = name; bounds = bounds_of names; rows = rows })

-- the value that was read, or `NotJson`
abbrev pub or_not_json : {A : Type 0} → Result A ReadFault → Result A TableFault
or_not_json (Ok x) = Ok x
or_not_json (Err fault) = Err faults.NotJson

-- the fault of a table whose rows break a rule
abbrev pub of_rows : RowsFault → TableFault
of_rows broken_rows.BeginsNowhere = faults.BeginsNowhere
of_rows (broken_rows.InRow row rule) = faults.InRow row (rules.Breaks rule)

-- the first rule that a table breaks, as a fault
abbrev pub rules_fault : OwnedTable → Option TableFault
rules_fault table = option_map of_rows (option_map broken (table_fault (definition table)))

-- the table that a JSON value describes, or its first fault
unfoldable pub table_from : Data → Result OwnedTable TableFault
table_from d = do
  table ← shape_of d
  kept ← faultless (rules_fault table)
  Ok table

-- the table that a JSON text describes, or its first fault
unfoldable pub table_of : List ℕ → Result OwnedTable TableFault
table_of bytes = do
  d ← or_not_json (document_within bytes)
  table ← shape_of d
  kept ← faultless (rules_fault table)
  Ok table
