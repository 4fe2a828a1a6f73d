-- What happens in a run of a table, in order.
use Rattle.std.specs.Prelude.{ℕ, ◌+◌, Bool, true, false, not, ◌&&◌, ◌||◌, List, [], ◌∷◌, ◌++◌, cond}
use Rattle.wh_workflow.specs.declared.job.Job.{Job}
use Rattle.wh_workflow.specs.declared.job.Job.TheVariants as jobs
use Rattle.wh_workflow.specs.declared.command.Command.{Command}
use Rattle.wh_workflow.specs.declared.command.Command.TheVariants as commands
use Rattle.wh_rows.specs.declared.row.RowsState.{RowsState}
use Rattle.wh_rows.specs.Tables.{JobPattern, Definition}
use Rattle.wh_rows.specs.Rows.{is_start, is_for_job, seen_by, gives, after}
use Rattle.wh_rows.specs.Laws.{is_closing}
use Rattle.wh_rows.specs.Properties.{CommandKind, kind_of, same_kind}

-- what may happen in a run
pub data Happening : Type 0 where
  -- a job comes that the pattern matches
  Comes : JobPattern → Happening
  -- the run gives a command of the kind
  Gives : CommandKind → Happening
  -- the run completes with a result
  Completes : Happening
  -- the run fails
  Fails : Happening
  -- the run closes as canceled
  Cancels : Happening
  -- the run continues as a new one
  ContinuesAsNew : Happening
  -- the run closes, in any of these ways
  Closes : Happening

-- an entry of what happened in a run
pub data Entry : Type 0 where
  -- a job came; the rows see it in this state
  Came : RowsState → Job → Entry
  -- the run gave this command
  Gave : Command → Entry

-- it is this job coming
abbrev pub comes : Happening → RowsState → Job → Bool
comes (Comes pattern) state job = is_for_job pattern state job
comes _ state job = false

-- it is this command being given
abbrev pub is_given : Happening → Command → Bool
is_given (Comes pattern) command = false
is_given (Gives kind) command = same_kind kind (kind_of command)
is_given Completes (commands.Complete _) = true
is_given Completes _ = false
is_given Fails (commands.Fail _) = true
is_given Fails _ = false
is_given Cancels commands.Cancel = true
is_given Cancels _ = false
is_given ContinuesAsNew (commands.ContinueAsNew _ _) = true
is_given ContinuesAsNew _ = false
is_given Closes command = is_closing command

-- it happened at the entry
abbrev pub is_at : Happening → Entry → Bool
is_at what (Came state job) = comes what state job
is_at what (Gave command) = is_given what command

-- how often it happened
abbrev pub times : Happening → List Entry → ℕ
times what [] = 0
times what (entry ∷ rest) = cond (is_at what entry) 1 0 + times what rest

-- it happened at one of the entries
abbrev pub happens : Happening → List Entry → Bool
happens what [] = false
happens what (entry ∷ rest) = is_at what entry || happens what rest

-- commands as entries
abbrev pub gave : List Command → List Entry
gave [] = []
gave (command ∷ rest) = Gave command ∷ gave rest

-- the entries of a run for these jobs: each job, followed by the commands that the run gives to it
abbrev pub course : Definition → RowsState → List Job → List Entry
course table state [] = []
course table state (job ∷ later) =
    Came (seen_by table state job) job ∷ (gave (gives table state job) ++ course table (after table state job) later)

-- none of the jobs starts the run
abbrev pub goes_on : List Job → Bool
goes_on [] = true
goes_on (job ∷ later) = not (is_start job) && goes_on later

-- the jobs begin as for a real run: a start, with nothing but the time before it, and no start after it
abbrev pub begins : List Job → Bool
begins [] = true
begins (jobs.Start _ _ ∷ later) = goes_on later
begins (jobs.Time _ ∷ later) = begins later
begins _ = false
