-- What holds for each table.
use Rattle.std.specs.Prelude.{◌≡◌, ℕ, ◌≤◌, ℤ, int_lt, Bool, true, false, not, ◌&&◌, ◌||◌, List, [], ◌∷◌, ◌++◌, IsTrue, bytes_eq}
use Rattle.wh_workflow.specs.declared.job.Job.{Job}
use Rattle.wh_workflow.specs.declared.job.Job.TheVariants as jobs
use Rattle.wh_workflow.specs.declared.command.Command.{Command}
use Rattle.wh_workflow.specs.declared.command.Command.TheVariants as commands
use Rattle.wh_rows.specs.declared.row.CommandTemplate.TheVariants as templates
use Rattle.wh_rows.specs.declared.row.Counters.{Counters}
use Rattle.wh_rows.specs.declared.row.RowsState.{RowsState}
use Rattle.wh_rows.specs.Tables.{CommandTemplate, Row, Definition}
use Rattle.wh_rows.specs.Rows.{named, fits, row_for, commands_of, after_row, seen_by, gives, after, initial}
use Rattle.wh_rows.specs.Rules.{hides, state_after}

-- the state after these jobs, one after another
abbrev pub after_all : Definition → RowsState → List Job → RowsState
after_all table state [] = state
after_all table state (job ∷ later) = after_all table (after table state job) later

-- none of the rows fits
abbrev pub none_fits : List Row → RowsState → Job → Bool
none_fits [] state job = true
none_fits (row ∷ rest) state job = not (fits row state job) && none_fits rest state job

-- the first row that fits decides, whatever rows come after it
abbrev pub FirstRowCounts : Definition → Type 0
FirstRowCounts table =
    (earlier : List Row) (row : Row) (later : List Row) (state : RowsState) (job : Job)
    → table.rows ≡ earlier ++ row ∷ later
    → IsTrue (none_fits earlier (seen_by table state job) job)
    → IsTrue (fits row (seen_by table state job) job)
    → (gives table state job ≡ commands_of row.gives (seen_by table state job) job)
    × (after table state job ≡ after_row row table.bounds (seen_by table state job) job)

-- if no row fits, there are no commands, and only a start changes the state: by the input and the name
abbrev pub NoRowChangesNothing : Definition → Type 0
NoRowChangesNothing table =
    (state : RowsState) (job : Job)
    → IsTrue (none_fits table.rows (seen_by table state job) job)
    → (gives table state job ≡ []) × (after table state job ≡ seen_by table state job)

-- the command closes the run
abbrev pub is_closing : Command → Bool
is_closing (commands.Complete _) = true
is_closing (commands.Fail _) = true
is_closing commands.Cancel = true
is_closing (commands.ContinueAsNew _ _) = true
is_closing _ = false

-- one of the commands closes the run
abbrev pub one_closes : List Command → Bool
one_closes [] = false
one_closes (command ∷ rest) = is_closing command || one_closes rest

-- a command that closes the run is the last one of its step
abbrev pub LastCommandCloses : Definition → Type 0
LastCommandCloses table =
    (state : RowsState) (job : Job) (earlier : List Command) (command : Command) (later : List Command)
    → gives table state job ≡ earlier ++ command ∷ later → IsTrue (is_closing command) → later ≡ []

-- after a step that closes the run there are no commands, whatever jobs come
abbrev pub ClosesForGood : Definition → Type 0
ClosesForGood table =
    (state : RowsState) (job : Job) (later : List Job) (last : Job)
    → IsTrue (one_closes (gives table state job))
    → gives table (after_all table (after table state job) later) last ≡ []

-- one of the rows fits and leads to the state
abbrev pub some_leads : List Row → RowsState → Job → List ℕ → Bool
some_leads [] state job name = false
some_leads (row ∷ rest) state job name = (fits row state job && bytes_eq row.next name)
    || some_leads rest state job name

-- a job leaves the run in its state, or a row that fits leads to the new one
abbrev pub StateChangesByRow : Definition → Type 0
StateChangesByRow table =
    (state : RowsState) (job : Job)
    → IsTrue (bytes_eq (after table state job).at state.at
    || some_leads table.rows (seen_by table state job) job (after table state job).at)

-- no counter exceeds its bound
abbrev pub IsWithin : Counters → Counters → Type 0
IsWithin bounds counts = (counts.a ≤ bounds.a) × (counts.b ≤ bounds.b) × (counts.c ≤ bounds.c) × (counts.d ≤ bounds.d)

-- no counter of a run exceeds its bound, whatever jobs come
abbrev pub WithinBounds : Definition → Type 0
WithinBounds table = (jobs : List Job) → IsWithin table.bounds (after_all table (initial table) jobs).counts

-- a row that an earlier one hides never applies: without it, the same row applies to each job
abbrev pub HiddenIsNeverTaken : Type 0
HiddenIsNeverTaken =
    (before : List Row) (earlier : Row) (between : List Row) (later : Row) (behind : List Row)
    (state : RowsState) (job : Job)
    → IsTrue (hides earlier later)
    → row_for (before ++ earlier ∷ (between ++ later ∷ behind)) state job
    ≡ row_for (before ++ earlier ∷ (between ++ behind)) state job

-- a version that a row asks for is never ignored: in the state after that row, a row fits each version that may be the
-- answer
abbrev pub AnswersAreHeard : Definition → Type 0
AnswersAreHeard table =
    (before : List Row) (row : Row) (behind : List Row) (first : List CommandTemplate) (change : List ℕ)
    (least greatest version : ℤ) (last : List CommandTemplate) (state : RowsState)
    → table.rows ≡ before ++ row ∷ behind
    → row.gives ≡ first ++ templates.Ask change least greatest ∷ last
    → state.closed ≡ false
    → state.at ≡ state_after row
    → IsTrue (not (int_lt version least))
    → IsTrue (not (int_lt greatest version))
    → none_fits table.rows state (jobs.Version (named change state) version) ≡ false
