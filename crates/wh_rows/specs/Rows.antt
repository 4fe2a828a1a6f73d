-- What the rows of a table mean.
use Rattle.std.specs.Prelude.{suc, ℕ, ℤ, Bool, true, false, not, ◌&&◌, ◌||◌, List, [], ◌∷◌, Option, Some, None, bytes_eq, codes, ltb, leb, if◌then◌else◌}
use Rattle.std.specs.Ordering.{int_eq}
use Rattle.wh_events.specs.declared.event.Payload.{Payload}
use Rattle.wh_workflow.specs.declared.job.Job.{Job}
use Rattle.wh_workflow.specs.declared.job.Job.TheVariants as jobs
use Rattle.wh_workflow.specs.declared.job.ActivityEnd.TheVariants as ends
use Rattle.wh_workflow.specs.declared.job.ChildEnd.TheVariants as child_ends
use Rattle.wh_workflow.specs.declared.command.Command.{Command}
use Rattle.wh_workflow.specs.declared.command.Command.TheVariants as commands
use Rattle.wh_workflow.specs.Law.{Program}
use Rattle.wh_rows.specs.declared.row.Source.{Source}
use Rattle.wh_rows.specs.declared.row.Source.TheVariants as sources
use Rattle.wh_rows.specs.declared.row.JobPattern.TheVariants as patterns
use Rattle.wh_rows.specs.declared.row.Condition.{Condition}
use Rattle.wh_rows.specs.declared.row.Condition.TheVariants as conditions
use Rattle.wh_rows.specs.declared.row.CommandTemplate.TheVariants as templates
use Rattle.wh_rows.specs.declared.row.Counter.{Counter}
use Rattle.wh_rows.specs.declared.row.Counter.TheVariants as counters
use Rattle.wh_rows.specs.declared.row.RowEffect.{RowEffect}
use Rattle.wh_rows.specs.declared.row.RowEffect.TheVariants as effects
use Rattle.wh_rows.specs.declared.row.Counters.{Counters}
use Rattle.wh_rows.specs.declared.row.RowsState.{RowsState}
use Rattle.wh_rows.specs.Naming.{name_by}
use Rattle.wh_rows.specs.Tables.{JobPattern, CommandTemplate, Row, Definition}

-- the run starts
abbrev pub is_start : Job → Bool
is_start (jobs.Start _ _) = true
is_start _ = false

-- the job is a signal of this name
abbrev pub is_signal : List ℕ → Job → Bool
is_signal wanted (jobs.Signal name _) = bytes_eq name wanted
is_signal wanted _ = false

-- cancellation of the run is requested
abbrev pub is_cancel_request : Job → Bool
is_cancel_request jobs.CancelRequested = true
is_cancel_request _ = false

-- the activity completed
abbrev pub is_done : List ℕ → Job → Bool
is_done wanted (jobs.Activity id (ends.Completed _)) = bytes_eq id wanted
is_done wanted _ = false

-- the activity ended without completing
abbrev pub is_not_done : List ℕ → Job → Bool
is_not_done wanted (jobs.Activity id (ends.Completed _)) = false
is_not_done wanted (jobs.Activity id _) = bytes_eq id wanted
is_not_done wanted _ = false

-- the timer fired
abbrev pub is_fired : List ℕ → Job → Bool
is_fired wanted (jobs.TimerFired id) = bytes_eq id wanted
is_fired wanted _ = false

-- the child started
abbrev pub is_child_started : List ℕ → Job → Bool
is_child_started wanted (jobs.ChildStarted id) = bytes_eq id wanted
is_child_started wanted _ = false

-- the child completed
abbrev pub is_child_done : List ℕ → Job → Bool
is_child_done wanted (jobs.Child id (child_ends.Completed _)) = bytes_eq id wanted
is_child_done wanted _ = false

-- the child was canceled
abbrev pub is_child_canceled : List ℕ → Job → Bool
is_child_canceled wanted (jobs.Child id child_ends.Canceled) = bytes_eq id wanted
is_child_canceled wanted _ = false

-- the child ended without completing
abbrev pub is_child_not_done : List ℕ → Job → Bool
is_child_not_done wanted (jobs.Child id (child_ends.Completed _)) = false
is_child_not_done wanted (jobs.Child id _) = bytes_eq id wanted
is_child_not_done wanted _ = false

-- the job gives this version of the change
abbrev pub is_version : List ℕ → ℤ → Job → Bool
is_version wanted number (jobs.Version change version) = bytes_eq change wanted && int_eq version number
is_version wanted number _ = false

-- the job gives a version of the change
abbrev pub is_any_version : List ℕ → Job → Bool
is_any_version wanted (jobs.Version change version) = bytes_eq change wanted
is_any_version wanted _ = false

-- a text of a row, where `@` is the name of the run
unfoldable pub named : List ℕ → RowsState → List ℕ
named text state = if bytes_eq text (codes "@") then state.name else text

-- the pattern of a row matches the job
abbrev pub is_for_job : JobPattern → RowsState → Job → Bool
is_for_job patterns.Start state job = is_start job
is_for_job (patterns.Signal wanted) state job = is_signal (named wanted state) job
is_for_job patterns.CancelRequested state job = is_cancel_request job
is_for_job (patterns.Done wanted) state job = is_done (named wanted state) job
is_for_job (patterns.NotDone wanted) state job = is_not_done (named wanted state) job
is_for_job (patterns.Fired wanted) state job = is_fired (named wanted state) job
is_for_job (patterns.ChildStarted wanted) state job = is_child_started (named wanted state) job
is_for_job (patterns.ChildDone wanted) state job = is_child_done (named wanted state) job
is_for_job (patterns.ChildCanceled wanted) state job = is_child_canceled (named wanted state) job
is_for_job (patterns.ChildNotDone wanted) state job = is_child_not_done (named wanted state) job
is_for_job (patterns.Version wanted number) state job = is_version (named wanted state) number job
is_for_job (patterns.AnyVersion wanted) state job = is_any_version (named wanted state) job

-- the value of a counter
abbrev pub count_of : Counter → Counters → ℕ
count_of counters.A counts = counts.a
count_of counters.B counts = counts.b
count_of counters.C counts = counts.c
count_of counters.D counts = counts.d

-- a condition holds
abbrev pub holds : Condition → Counters → Bool
holds (conditions.Below counter bound) counts = ltb (count_of counter counts) bound
holds (conditions.AtLeast counter bound) counts = leb bound (count_of counter counts)

-- each condition holds
abbrev pub all_hold : List Condition → Counters → Bool
all_hold [] counts = true
all_hold (condition ∷ rest) counts = holds condition counts && all_hold rest counts

-- a row for this state name is for the state that the run is in
abbrev pub is_for_state : List ℕ → RowsState → Bool
is_for_state name state = not state.closed && (bytes_eq name (codes "any") || bytes_eq name state.at)

-- the row fits: its state, its job and its conditions
abbrev pub fits : Row → RowsState → Job → Bool
fits row state job =
    is_for_state row.state state && is_for_job row.job state job && all_hold row.conditions state.counts

-- the first row that fits
unfoldable pub row_for : List Row → RowsState → Job → Option Row
row_for [] state job = None
row_for (row ∷ rows) state job = if fits row state job then Some row else row_for rows state job

-- the payloads that the job carries
abbrev pub brought : Job → List Payload
brought (jobs.Start _ input) = input
brought (jobs.Signal _ input) = input
brought (jobs.Activity _ (ends.Completed given)) = given
brought (jobs.Child _ (child_ends.Completed given)) = given
brought _ = []

-- an input or a result from its source
abbrev pub payloads : Source → RowsState → Job → List Payload
payloads sources.Nothing state job = []
payloads sources.Input state job = state.input
payloads sources.Brought state job = brought job
payloads sources.Kept state job = state.kept

-- the command that a row gives
abbrev pub command_of : CommandTemplate → RowsState → Job → Command
command_of (templates.StartActivity id activity source) state job =
    commands.StartActivity (named id state) activity (payloads source state job)
command_of (templates.CancelActivity id) state job = commands.CancelActivity (named id state)
command_of (templates.StartTimer id seconds) state job = commands.StartTimer (named id state) seconds
command_of (templates.CancelTimer id) state job = commands.CancelTimer (named id state)
command_of (templates.StartChild id workflow source) state job =
    commands.StartChild (named id state) workflow (payloads source state job)
command_of (templates.CancelChild id) state job = commands.CancelChild (named id state)
command_of (templates.SignalExternal id signal source) state job =
    commands.SignalExternal (named id state) signal (payloads source state job)
command_of (templates.Ask change least greatest) state job = commands.Ask (named change state) least greatest
command_of (templates.Complete source) state job = commands.Complete (payloads source state job)
command_of (templates.Fail message) state job = commands.Fail message
command_of templates.Cancel state job = commands.Cancel
command_of (templates.ContinueAsNew workflow source) state job =
    commands.ContinueAsNew workflow (payloads source state job)

-- the commands, in their order
unfoldable pub commands_of : List CommandTemplate → RowsState → Job → List Command
commands_of [] state job = []
commands_of (one ∷ rest) state job = command_of one state job ∷ commands_of rest state job

-- the commands of a row, if there is one
abbrev pub row_gives : Option Row → RowsState → Job → List Command
row_gives None state job = []
row_gives (Some row) state job = commands_of row.gives state job

-- the commands that rows give
abbrev pub rows_give : List Row → RowsState → Job → List Command
rows_give rows state job = row_gives (row_for rows state job) state job

-- the command closes the run
abbrev pub closes : CommandTemplate → Bool
closes (templates.Complete _) = true
closes (templates.Fail _) = true
closes templates.Cancel = true
closes (templates.ContinueAsNew _ _) = true
closes _ = false

-- one of the commands closes the run
abbrev pub some_closes : List CommandTemplate → Bool
some_closes [] = false
some_closes (one ∷ rest) = closes one || some_closes rest

-- one more, or the bound if that is less
abbrev pub raised : ℕ → ℕ → ℕ
raised count bound = if ltb count bound then suc count else bound

-- the counts with this value for one counter
abbrev pub with_count : Counter → Counters → ℕ → Counters
with_count counters.A counts value = record counts { a = value }
with_count counters.B counts value = record counts { b = value }
with_count counters.C counts value = record counts { c = value }
with_count counters.D counts value = record counts { d = value }

-- the state after one effect of a row
abbrev pub after_one : RowEffect → Counters → RowsState → Job → RowsState
after_one (effects.Up counter) bounds state job =
    record state {
      counts = with_count counter state.counts
          (raised (count_of counter state.counts) (count_of counter bounds));
    }
after_one (effects.Zero counter) bounds state job = record state { counts = with_count counter state.counts 0 }
after_one effects.Keep bounds state job = record state { kept = brought job }

-- the state after all effects, one after another
unfoldable pub after_effects : List RowEffect → Counters → RowsState → Job → RowsState
after_effects [] bounds state job = state
after_effects (one ∷ rest) bounds state job = after_effects rest bounds (after_one one bounds state job) job

-- the name of the state after a row that names this one, in that state
abbrev pub next_state : List ℕ → List ℕ → List ℕ
next_state next at = if bytes_eq next (codes "same") then at else next

-- the state after a row
abbrev pub after_row : Row → Counters → RowsState → Job → RowsState
after_row row bounds state job =
    let next = after_effects row.effects bounds state job in
    record next {
      at = next_state row.next next.at;
      closed = some_closes row.gives;
    }

-- the state after a row, if there is one
abbrev pub after_found : Option Row → Counters → RowsState → Job → RowsState
after_found None bounds state job = state
after_found (Some row) bounds state job = after_row row bounds state job

-- the state after the first of the rows that fits
abbrev pub after_rows : List Row → Counters → RowsState → Job → RowsState
after_rows rows bounds state job = after_found (row_for rows state job) bounds state job

-- the state with the input and the name of the run, if the job starts it
abbrev pub started : (List Payload → List ℕ) → RowsState → Job → RowsState
started name_of state (jobs.Start _ input) = record state { input = input; name = name_of input }
started name_of state _ = state

-- the state that the rows of a table see at a job: with the input and the name, if the job starts the run
abbrev pub seen_by : Definition → RowsState → Job → RowsState
seen_by table state job = started (name_by table.name) state job

-- the commands that a table gives to a job
abbrev pub gives : Definition → RowsState → Job → List Command
gives table state job = rows_give table.rows (seen_by table state job) job

-- the state after a job
abbrev pub after : Definition → RowsState → Job → RowsState
after table state job = after_rows table.rows table.bounds (seen_by table state job) job

-- the state of a run before its first job
abbrev pub initial : Definition → RowsState
initial table = record {
  at = table.first;
  closed = false;
  name = [];
  input = [];
  kept = [];
  counts = record { a = 0; b = 0; c = 0; d = 0 };
}

-- the workflow that follows a table
abbrev pub program : Definition → Program RowsState
program table = record {
  knows = λ kind. bytes_eq table.kind kind;
  initial = λ _. initial table;
  after = after table;
  gives = gives table;
}
