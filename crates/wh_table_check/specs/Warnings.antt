-- Warnings: what the author of a table without a fault may not have meant.
use Rattle.std.specs.Prelude.{ℕ, ◌+◌, Bool, true, false, not, ◌&&◌, ◌||◌, List, [], ◌∷◌, ◌++◌, take, bytes_eq, codes, Option, Some, None, if◌then◌else◌}
use Rattle.std.specs.List.{flat_map}
use Rattle.wh_rows.specs.declared.row.JobPattern.TheVariants as patterns
use Rattle.wh_rows.specs.declared.row.CommandTemplate.TheVariants as templates
use Rattle.wh_rows.specs.Tables.{JobPattern, CommandTemplate, Naming, Row}
use Rattle.wh_rows.specs.Rows.{some_closes}
use Rattle.wh_rows.specs.Rules.{has_state}
use Rattle.wh_table_text.specs.Numbered.{numbered}
use Rattle.wh_table_check.specs.declared.finding.TableFinding.{TableFinding}
use Rattle.wh_table_check.specs.Findings.{finding_at}
use Rattle.wh_table_check.specs.Names.{nameless}
use Rattle.wh_table_check.specs.Signals.{dropped}
use Rattle.wh_table_check.specs.NewRuns.{tableless}

-- ---- What a row opens

-- the pattern matches an end of the activity with this id
abbrev pub ends_activity : JobPattern → List ℕ → Bool
ends_activity (patterns.Done other) id = bytes_eq other id
ends_activity (patterns.NotDone other) id = bytes_eq other id
ends_activity _ id = false

-- the pattern matches the firing of the timer with this id
abbrev pub fires : JobPattern → List ℕ → Bool
fires (patterns.Fired other) id = bytes_eq other id
fires _ id = false

-- the pattern matches the start or an end of the child with this workflow id
abbrev pub is_of_child : JobPattern → List ℕ → Bool
is_of_child (patterns.ChildStarted other) id = bytes_eq other id
is_of_child (patterns.ChildDone other) id = bytes_eq other id
is_of_child (patterns.ChildCanceled other) id = bytes_eq other id
is_of_child (patterns.ChildNotDone other) id = bytes_eq other id
is_of_child _ id = false

-- the pattern matches what becomes of the activity, timer or child that the command starts
abbrev pub awaits : CommandTemplate → JobPattern → Bool
awaits (templates.StartActivity id activity source) pattern = ends_activity pattern id
awaits (templates.StartTimer id seconds) pattern = fires pattern id
awaits (templates.StartChild id workflow source) pattern = is_of_child pattern id
awaits _ pattern = true

-- one of the rows waits for what the command starts
abbrev pub is_awaited : CommandTemplate → List Row → Bool
is_awaited template [] = false
is_awaited template (row ∷ rows) = awaits template row.job || is_awaited template rows

-- the words of the warning for a command that starts something that no row waits for, and its id
abbrev pub opened : CommandTemplate → Option (List ℕ × List ℕ)
opened (templates.StartActivity id activity source) = Some (codes "no row waits for the activity ", id)
opened (templates.StartTimer id seconds) = Some (codes "no row waits for the timer ", id)
opened (templates.StartChild id workflow source) = Some (codes "no row waits for the child ", id)
opened _ = None

-- the warning at the row of this number, unless a row waits for it
abbrev pub unless_awaited : ℕ → Bool → Option (List ℕ × List ℕ) → List TableFinding
unless_awaited number awaited None = []
unless_awaited number awaited (Some said) = if awaited then [] else finding_at number said.0 said.1 ∷ []

-- the warning for a command of the row of this number
abbrev pub unawaited : ℕ → List Row → CommandTemplate → List TableFinding
unawaited number rows template = unless_awaited number (is_awaited template rows) (opened template)

-- ---- States

-- the row is for the state, and closes the run or leads to another state
abbrev pub leads_out : List ℕ → Row → Bool
leads_out name row =
    (bytes_eq row.state (codes "any") || bytes_eq row.state name)
    && (some_closes row.gives || not (bytes_eq row.next (codes "same") || bytes_eq row.next name))

-- one of the rows leads out of the state
abbrev pub has_way_out : List ℕ → List Row → Bool
has_way_out name [] = false
has_way_out name (row ∷ rows) = leads_out name row || has_way_out name rows

-- the row is not the first one for its state, or a row leads out of that state; so many rows come before it
unfoldable pub goes_on : ℕ → List Row → Row → Bool
goes_on place rows row =
    bytes_eq row.state (codes "any") || (has_state row.state (take place rows) || has_way_out row.state rows)

-- the warning for the first row for a state that no row leads out of
abbrev pub stuck : ℕ → List Row → Row → List TableFinding
stuck place rows row =
    if goes_on place rows row then []
    else finding_at (place + 1) (codes "no row leads on from the state ") row.state ∷ []

-- ---- All of them

-- the warnings for a command of the row of this number
abbrev pub command_warnings : ℕ → List Row → CommandTemplate → List TableFinding
command_warnings number rows template = unawaited number rows template ++ tableless number template

-- the warnings for a row; so many rows come before it
abbrev pub row_warnings : Naming → List Row → ℕ → Row → List TableFinding
row_warnings naming rows place row =
    stuck place rows row
    ++ (dropped place rows row
    ++ (nameless naming (place + 1) row ++ flat_map (command_warnings (place + 1) rows) row.gives))

-- the warnings for the rows of a table, whose runs are named so
abbrev pub rows_warnings : Naming → List Row → List TableFinding
rows_warnings naming rows = numbered (row_warnings naming rows) 0 rows
