-- A table that breaks no rule is a lawful workflow.
use Rattle.std.specs.Prelude.{◌≡◌, ℕ, suc, ◌≤◌, Bool, true, false, not, ◌&&◌, List, [], ◌∷◌, length, Option, Some, None, leb, refl, if◌then◌else◌}
use Rattle.std.proofs.Common.{ap, sym, subst, ◌∙◌}
use Rattle.std.proofs.lemmas.Bool.{leb-true}
use Rattle.wh_events.specs.Machines.{or_else}
use Rattle.wh_workflow.specs.declared.job.Job.{Job}
use Rattle.wh_workflow.specs.Law.{IsAnswer, IsLawful, asks_last, records_none, is_ask, is_marker}
use Rattle.wh_workflow.specs.Answering.{none_is_answer}
use Rattle.wh_rows.specs.declared.row.CommandTemplate.TheVariants as templates
use Rattle.wh_rows.specs.declared.row.RowsState.{RowsState}
use Rattle.wh_rows.specs.Tables.{CommandTemplate, Row, Definition}
use Rattle.wh_rows.specs.Rows.{program, seen_by, closes, command_of, commands_of, row_gives, row_for, fits}
use Rattle.wh_rows.specs.Rules.{Rule, TooManyCommands, CommandAfterLast, TableFault, BeginsNowhere, asks, ends_well, unless, in_row, row_rule, rows_fault, has_state, table_fault}

pub first_of : (a b : Bool) → (a && b) ≡ true → a ≡ true
first_of true b holds = refl
first_of false b holds = holds

pub second_of : (a b : Bool) → (a && b) ≡ true → b ≡ true
second_of true b holds = holds
second_of false b holds = cc

pub both : (a b : Bool) → a ≡ true → b ≡ true → (a && b) ≡ true
both true b first second = second
both false b first second = first

as_many : (gives : List CommandTemplate) (state : RowsState) (job : Job)
    → length (commands_of gives state job) ≡ length gives
unfolding commands_of
as_many [] state job = refl
as_many (one ∷ rest) state job = ap suc (as_many rest state job)

-- a row gives no marker
no_marker : (one : CommandTemplate) (state : RowsState) (job : Job) → not (is_marker (command_of one state job)) ≡ true
no_marker (templates.StartActivity _ _ _) state job = refl
no_marker (templates.CancelActivity _) state job = refl
no_marker (templates.StartTimer _ _) state job = refl
no_marker (templates.CancelTimer _) state job = refl
no_marker (templates.StartChild _ _ _) state job = refl
no_marker (templates.CancelChild _) state job = refl
no_marker (templates.SignalExternal _ _ _) state job = refl
no_marker (templates.Ask _ _ _) state job = refl
no_marker (templates.Complete _) state job = refl
no_marker (templates.Fail _) state job = refl
no_marker templates.Cancel state job = refl
no_marker (templates.ContinueAsNew _ _) state job = refl

no_markers : (gives : List CommandTemplate) (state : RowsState) (job : Job)
    → records_none (commands_of gives state job) ≡ true
unfolding commands_of
no_markers [] state job = refl
no_markers (one ∷ rest) state job =
    both (not (is_marker (command_of one state job))) (records_none (commands_of rest state job))
    (no_marker one state job) (no_markers rest state job)

-- a command asks for a version exactly if its template does
asks_alike : (one : CommandTemplate) (state : RowsState) (job : Job) → is_ask (command_of one state job) ≡ asks one
asks_alike (templates.StartActivity _ _ _) state job = refl
asks_alike (templates.CancelActivity _) state job = refl
asks_alike (templates.StartTimer _ _) state job = refl
asks_alike (templates.CancelTimer _) state job = refl
asks_alike (templates.StartChild _ _ _) state job = refl
asks_alike (templates.CancelChild _) state job = refl
asks_alike (templates.SignalExternal _ _ _) state job = refl
asks_alike (templates.Ask _ _ _) state job = refl
asks_alike (templates.Complete _) state job = refl
asks_alike (templates.Fail _) state job = refl
asks_alike templates.Cancel state job = refl
asks_alike (templates.ContinueAsNew _ _) state job = refl

asks_end : (gives : List CommandTemplate) (state : RowsState) (job : Job) → ends_well gives ≡ true
    → asks_last (commands_of gives state job) ≡ true
unfolding commands_of
asks_end [] state job well = refl
asks_end (one ∷ []) state job well = refl
asks_end (one ∷ next ∷ rest) state job well =
    both (not (is_ask (command_of one state job))) (asks_last (commands_of (next ∷ rest) state job))
    (ap not (asks_alike one state job) ∙ first_of (not (asks one)) (not (closes one) && ends_well (next ∷ rest)) well)
    (asks_end (next ∷ rest) state job
    (second_of (not (closes one)) (ends_well (next ∷ rest))
    (second_of (not (asks one)) (not (closes one) && ends_well (next ∷ rest)) well)))

pub passes : (test : Bool) (rule : Rule) (later : Option Rule) → unless test rule later ≡ None → test ≡ true
passes true rule later none = refl
passes false rule later none = cc

pub goes_on : (test : Bool) (rule : Rule) (later : Option Rule) → unless test rule later ≡ None → later ≡ None
goes_on true rule later none = none
goes_on false rule later none = cc

pub none_broken : (number : ℕ) (rule : Option Rule) → in_row number rule ≡ None → rule ≡ None
none_broken number None none = refl
none_broken number (Some rule) none = cc

-- if a row breaks no rule, only its last command may ask for a version or close the run
pub row_ends_well : (table : Definition) (before : ℕ) (row : Row) → row_rule table before row ≡ None
    → ends_well row.gives ≡ true
row_ends_well table before row none =
    passes (ends_well row.gives) CommandAfterLast _ (goes_on (leb (length row.gives) 64) TooManyCommands _ none)

-- a row that breaks no rule gives what a step may
row_answers : (table : Definition) (before : ℕ) (row : Row) (state : RowsState) (job : Job)
    → row_rule table before row ≡ None → IsAnswer (row_gives (Some row) state job)
row_answers table before row state job none = record {
  few =
      subst (λ count. count ≤ 64) (sym (as_many row.gives state job))
      (leb-true _ _ (passes (leb (length row.gives) 64) TooManyCommands _ none));
  asks = asks_end row.gives state job (row_ends_well table before row none);
  records = no_markers row.gives state job;
}

either : (test : Bool) (one other : Option Row) (P : Option Row → Type 0) → P one → P other
    → P (if test then one else other)
either true one other P first second = first
either false one other P first second = second

pub none_first : (first second : Option TableFault) → or_else first second ≡ None → first ≡ None
none_first None second none = refl
none_first (Some fault) second none = none

pub none_second : (first second : Option TableFault) → or_else first second ≡ None → second ≡ None
none_second None second none = none
none_second (Some fault) second none = cc

-- what holds of no row, and of each row that breaks no rule, holds of the first one that fits
found : (table : Definition) (before : ℕ) (rest : List Row) (state : RowsState) (job : Job) (P : Option Row → Type 0)
    → rows_fault table before rest ≡ None → P None
    → ((before : ℕ) (row : Row) → row_rule table before row ≡ None → P (Some row)) → P (row_for rest state job)
unfolding row_for
found table before [] state job P faultless none some = none
found table before (row ∷ rest) state job P faultless none some =
    either (fits row state job) (Some row) (row_for rest state job) P
    (some before row
    (none_broken (suc before) (row_rule table before row)
    (none_first (in_row (suc before) (row_rule table before row)) (rows_fault table (suc before) rest) faultless)))
    (found table (suc before) rest state job P
    (none_second (in_row (suc before) (row_rule table before row)) (rows_fault table (suc before) rest) faultless)
    none some)

pub begins : (test : Bool) (rest : Option TableFault) → (if test then rest else Some BeginsNowhere) ≡ None → rest ≡ None
begins true rest none = none
begins false rest none = cc

-- what holds of no row, and of each row that breaks no rule, holds of the row that counts in a table that breaks none
pub of_row : (table : Definition) (state : RowsState) (job : Job) (P : Option Row → Type 0) → table_fault table ≡ None
    → P None → ((before : ℕ) (row : Row) → row_rule table before row ≡ None → P (Some row))
    → P (row_for table.rows state job)
of_row table state job P faultless none some =
    found table 0 table.rows state job P
    (begins (has_state table.first table.rows) (rows_fault table 0 table.rows) faultless)
    none some

-- a table that breaks no rule is lawful
pub rows_lawful : (table : Definition) → table_fault table ≡ None → IsLawful (program table)
rows_lawful table faultless state job =
    let now : RowsState = seen_by table state job in
    of_row table now job (λ row. IsAnswer (row_gives row now job)) faultless none_is_answer
    (λ before row none. row_answers table before row now job none)
