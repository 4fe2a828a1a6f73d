-- A history that replay accepts is one of a run: the run's entries at its jobs keep each promise and have its commands.
use Rattle.std.specs.Prelude.{◌≡◌, Bool, true, false, ◌&&◌, cond, List, [], ◌∷◌, ◌++◌, Ok, IsTrue}
use Rattle.wh_events.specs.declared.event.Event.{Event}
use Rattle.wh_events.specs.declared.event.Payload.{Payload}
use Rattle.wh_events.specs.declared.kind.EventKind.{EventKind}
use Rattle.wh_events.specs.declared.kind.EventKind.TheVariants.{WorkflowExecutionStarted}
use Rattle.wh_events.specs.Cuts.{is_cut}
use Rattle.wh_workflow.specs.declared.job.Job.{Job}
use Rattle.wh_workflow.specs.declared.job.Job.TheVariants as jobs
use Rattle.wh_workflow.specs.declared.command.Command.{Command}
use Rattle.wh_workflow.specs.Law.{Program, is_marker}
use Rattle.wh_workflow.specs.Jobs.{jobs_of}
use Rattle.wh_workflow.specs.Activations.{Progress, activate}
use Rattle.wh_workflow.specs.ActivationScripts.{is_version}
use Rattle.wh_replay.specs.Runs.{HistoryView, IsReplayed}
use Rattle.wh_replay.specs.Replays.{ReplayResult, Replayed, context_at, begin_at, task, start, workflow_of, replay}
use Rattle.wh_rows.specs.declared.row.RowsState.{RowsState}
use Rattle.wh_rows.specs.Tables.{Definition}
use Rattle.wh_rows.specs.Rows.{initial, program}
use Rattle.wh_rows.specs.Laws.{after_all}
use Rattle.wh_rows.specs.Courses.{Entry, Came, Gave, course, begins}
use Rattle.wh_rows.specs.Promises.{Promise, KeptAllIn}

-- commands without version markers
abbrev pub without_markers : List Command → List Command
without_markers [] = []
without_markers (command ∷ rest) = cond (is_marker command) (without_markers rest) (command ∷ without_markers rest)

-- the commands among entries
abbrev pub commands_in : List Entry → List Command
commands_in [] = []
commands_in (Came state job ∷ rest) = commands_in rest
commands_in (Gave command ∷ rest) = command ∷ commands_in rest

-- The activations of the cuts of the rest of a history issue these commands, after the events before it; the last of
-- those are between the last cut and the rest. Each activation begins in the state that the tasks before it left.
pub data HasIssued {S : Type 0} (program : Program S) : List Event → List Event → List Event → ReplayResult S
    → List Command → Type 0 where
  ended : (before between : List Event) (current : ReplayResult S) → HasIssued program before between [] current []
  passed : (before between : List Event) (event : Event) (rest : List Event) (current : ReplayResult S)
      (issued : List Command) → is_cut event rest ≡ false
      → HasIssued program (before ++ event ∷ []) (between ++ event ∷ []) rest current issued
      → HasIssued program before between (event ∷ rest) current issued
  ran : (before between : List Event) (event : Event) (rest : List Event) (current left : ReplayResult S)
      (progress : Progress S) (issued : List Command) → is_cut event rest ≡ true
      → activate program (context_at before between event rest)
      (jobs_of (before ++ event ∷ []) between event) (begin_at current) ≡ Ok progress
      → task program before between event rest current ≡ Ok left
      → HasIssued program (before ++ event ∷ []) [] rest left issued
      → HasIssued program before between (event ∷ rest) current (progress.script.issued ++ issued)

-- each job is a version
abbrev pub all_versions : List Job → Bool
all_versions [] = true
all_versions (job ∷ rest) = is_version job && all_versions rest

-- the job gives the time
abbrev pub is_time : Job → Bool
is_time (jobs.Time _) = true
is_time _ = false

-- the jobs, each followed by any number of versions, except the time
pub data Interleaved : List Job → List Job → Type 0 where
  no_jobs : Interleaved [] []
  next_job : (job : Job) (versions rest list : List Job) → all_versions versions ≡ true
      → (is_time job ≡ true → versions ≡ [])
      → Interleaved rest list → Interleaved (job ∷ rest) (job ∷ (versions ++ list))

-- The jobs of the cuts of the rest of a history, some followed by versions, after the events before it; the last of
-- those are between the last cut and the rest.
pub data Told : List Event → List Event → List Event → List Job → Type 0 where
  told_end : (before between : List Event) → Told before between [] []
  told_on : (before between : List Event) (event : Event) (rest : List Event) (list : List Job)
      → is_cut event rest ≡ false
      → Told (before ++ event ∷ []) (between ++ event ∷ []) rest list → Told before between (event ∷ rest) list
  told_cut : (before between : List Event) (event : Event) (rest : List Event) (here list : List Job)
      → is_cut event rest ≡ true
      → Interleaved (jobs_of (before ++ event ∷ []) between event) here
      → Told (before ++ event ∷ []) [] rest list
      → Told before between (event ∷ rest) (here ++ list)

-- the input of the run that an event starts
abbrev pub input_in : EventKind → List Payload
input_in (WorkflowExecutionStarted _ input) = input
input_in _ = []

-- the input of the run of a history
abbrev pub input_of : List Event → List Payload
input_of [] = []
input_of (event ∷ _) = input_in event.body

-- If replay accepts a history, the jobs of its tasks, some followed by versions, begin with the only start. The
-- commands that its activations issue, except version markers, are those that a run gives to these jobs. The state that
-- replay returns is the state of that run.
abbrev pub HistoriesAreCourses : Definition → Type 0
HistoriesAreCourses table =
    (events : List Event) (left : Replayed RowsState) → replay (program table) events 0 ≡ Ok left
    → (issued : List Command)
    × HasIssued (program table) [] [] events (start (program table) (workflow_of events) 0) issued
    × (list : List Job) × Told [] [] events list × IsTrue (begins list)
    × (without_markers issued ≡ commands_in (course table (initial table) list))
    × (left.state ≡ after_all table (initial table) list)

-- if replay accepts a history, a run keeps each promise at the jobs of the history's tasks
abbrev pub HistoriesKeep : Definition → List Promise → Type 0
HistoriesKeep table promises =
    (events : List Event) (left : Replayed RowsState) → replay (program table) events 0 ≡ Ok left
    → (list : List Job) → Told [] [] events list → KeptAllIn promises (course table (initial table) list)

-- if a run shows what replay of its events returns, as each run that a host holds does, it keeps each promise at the
-- jobs of its tasks
abbrev pub RunsKeep : Definition → List Promise → Type 0
RunsKeep table promises =
    (history : HistoryView) → IsReplayed (program table) history
    → (list : List Job) → Told [] [] history.events list → KeptAllIn promises (course table (initial table) list)
