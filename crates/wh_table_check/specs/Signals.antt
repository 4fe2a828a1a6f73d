-- Signals for which only some states wait: in the others they are lost.
use Rattle.std.specs.Prelude.{ℕ, ◌+◌, Bool, false, not, ◌&&◌, ◌||◌, List, [], ◌∷◌, ◌++◌, take, bytes_eq, codes, Option, Some, None, if◌then◌else◌}
use Rattle.std.specs.List.{list_any}
use Rattle.wh_rows.specs.declared.row.JobPattern.TheVariants as patterns
use Rattle.wh_rows.specs.Tables.{JobPattern, Row}
use Rattle.wh_rows.specs.Rows.{some_closes}
use Rattle.wh_rows.specs.Rules.{state_after}
use Rattle.wh_table_check.specs.declared.finding.TableFinding.{TableFinding}
use Rattle.wh_table_check.specs.Findings.{finding_at}

-- the signal that a pattern is for
abbrev pub signal_in : JobPattern → Option (List ℕ)
signal_in (patterns.Signal name) = Some name
signal_in _ = None

-- the signal that a row is for
abbrev pub signal_of : Row → Option (List ℕ)
signal_of row = signal_in row.job

-- the name is that of the signal, if there is one
abbrev pub is_signal : Option (List ℕ) → List ℕ → Bool
is_signal (Some other) name = bytes_eq other name
is_signal None name = false

-- the row is for the signal
abbrev pub is_for_signal : List ℕ → Row → Bool
is_for_signal name row = is_signal (signal_of row) name

-- the row is for the signal in the state, whatever its conditions are
abbrev pub hears : List ℕ → List ℕ → Row → Bool
hears name state row = is_for_signal name row && (bytes_eq row.state (codes "any") || bytes_eq row.state state)

-- one of the rows is for the signal in the state
abbrev pub is_heard : List ℕ → List ℕ → List Row → Bool
is_heard name state rows = list_any (hears name state) rows

-- one of the rows is for the signal
abbrev pub is_known : List ℕ → List Row → Bool
is_known name rows = list_any (is_for_signal name) rows

-- the run goes on after the row, in a state in which no row is for the signal
abbrev pub drops : List ℕ → List Row → Row → Bool
drops name rows row =
    not (some_closes row.gives)
    && (not (bytes_eq (state_after row) (codes "any")) && not (is_heard name (state_after row) rows))

-- the state after the first of these rows after which the signal is dropped
abbrev pub state_dropping : List ℕ → List Row → List Row → Option (List ℕ)
state_dropping name all [] = None
state_dropping name all (row ∷ rows) =
    if drops name all row then Some (state_after row) else state_dropping name all rows

-- the warning at the row of this number, that the state drops the signal
abbrev pub drop_finding : ℕ → List ℕ → List ℕ → TableFinding
drop_finding number state name = finding_at number (codes "the state " ++ (state ++ codes " drops the signal ")) name

-- that warning, if there is such a state
abbrev pub drop_at : ℕ → Option (List ℕ) → List ℕ → List TableFinding
drop_at number None name = []
drop_at number (Some state) name = drop_finding number state name ∷ []

-- the warning for a signal at the row of this number
abbrev pub drop_warnings : ℕ → List Row → List ℕ → List TableFinding
drop_warnings number rows name = drop_at number (state_dropping name rows rows) name

-- that warning at the first row for the signal; so many rows come before this one
abbrev pub dropped_at : ℕ → List Row → Option (List ℕ) → List TableFinding
dropped_at place rows None = []
dropped_at place rows (Some name) =
    if is_known name (take place rows) then [] else drop_warnings (place + 1) rows name

-- the warning for the signal that a row is for
abbrev pub dropped : ℕ → List Row → Row → List TableFinding
dropped place rows row = dropped_at place rows (signal_of row)
