-- The commands that a table gives to the jobs of a scenario, and where they differ from it.
use Rattle.std.specs.Prelude.{ℕ, Bool, is_none, List, [], ◌∷◌, ◌++◌, map, bytes_eq, codes, Option, Some, None, Result, Ok, Err, if◌then◌else◌}
use Rattle.wh_events.specs.declared.event.Payload.{Payload}
use Rattle.wh_workflow.specs.declared.command.Command.{Command}
use Rattle.wh_workflow.specs.declared.command.Command.TheVariants as commands
use Rattle.wh_workflow.specs.declared.job.Job.{Job}
use Rattle.wh_workflow.specs.declared.job.Job.TheVariants as jobs
use Rattle.wh_author_tools.specs.CommandTexts.{commands_text}
use Rattle.wh_row_rules.specs.declared.owned.OwnedTable.{OwnedTable}
use Rattle.wh_table_text.specs.declared.fault.TableFault.{TableFault}
use Rattle.wh_table_text.specs.Reading.{table_of}
use Rattle.wh_table_text.specs.Texts.{fault_text}
use Rattle.wh_table.specs.declared.state.TableState.{TableState}
use Rattle.wh_table.specs.Program as table
use Rattle.wh_table_trial.specs.declared.entries.Entry.{Entry}
use Rattle.wh_table_trial.specs.declared.entries.Entry.TheVariants.{Told, NoJob, LineEnd}
use Rattle.wh_table_trial.specs.declared.running.TrialDifference.{TrialDifference}
use Rattle.wh_table_trial.specs.declared.running.TrialDifference.TheVariants as differences
use Rattle.wh_table_trial.specs.declared.running.TrialState.{TrialState}
use Rattle.wh_table_trial.specs.declared.running.TrialStep.{TrialStep}
use Rattle.wh_table_trial.specs.declared.running.Trial.{Trial}
use Rattle.wh_table_trial.specs.Entries.{scenario_entries}

-- ---- Jobs and commands

-- the payload of a table
abbrev pub table_payload : List ℕ → Payload
table_payload bytes = record { encoding = codes "json/plain"; content = bytes }

-- the job; a start gets the table before its input
abbrev pub started : List ℕ → Job → Job
started bytes (jobs.Start workflow input) = jobs.Start workflow (table_payload bytes ∷ input)
started bytes job = job

-- the payload, or `TABLE` instead of the table
abbrev pub named : List ℕ → Payload → Payload
named bytes payload =
    if bytes_eq payload.content bytes then record { encoding = payload.encoding; content = codes "TABLE" } else payload

-- the command, with `TABLE` instead of the table if it continues as a new run
abbrev pub shorter : List ℕ → Command → Command
shorter bytes (commands.ContinueAsNew workflow input) = commands.ContinueAsNew workflow (map (named bytes) input)
shorter bytes command = command

-- commands as a scenario writes them
abbrev pub given_text : List ℕ → List Command → List ℕ
given_text bytes given = commands_text (map (shorter bytes) given)

-- ---- A run

-- the state of a trial: the run, the commands of the line so far, and the jobs so far
pub record At : Type 0 where
  pub state : TableState
  pub given : List Command
  pub steps : List TrialStep

-- the same of the program's type
abbrev pub seen : TrialState → At
seen run = record { state = run.state; given = run.given.items; steps = run.steps.items }

-- the trial after a job, with these words
abbrev pub taken : List ℕ → At → List ℕ → Job → At
taken bytes run words job = record {
  state = table.after run.state job;
  given = run.given ++ table.gives run.state job;
  steps = run.steps ++ record { words = words; given = given_text bytes (table.gives run.state job) } ∷ [];
}

-- the trial after a job of a scenario
abbrev pub told : List ℕ → At → List ℕ → Job → At
told bytes run words job = taken bytes run words (started bytes job)

-- the trial after an entry of a scenario
abbrev pub later : List ℕ → At → Entry → At
later bytes run (Told words job) = told bytes run words job
later bytes run (NoJob line words) = run
later bytes run (LineEnd line wanted) = record run { given = [] }

-- the difference, if a line expects other commands
abbrev pub differs : ℕ → List ℕ → Option (List ℕ) → Option TrialDifference
differs line given None = None
differs line given (Some wanted) = if bytes_eq given wanted then None else Some (differences.Gives line given wanted)

-- the difference at an entry of a scenario
abbrev pub stop : List ℕ → At → Entry → Option TrialDifference
stop bytes run (Told words job) = None
stop bytes run (NoJob line words) = Some (differences.NoJob line words)
stop bytes run (LineEnd line wanted) = differs line (given_text bytes run.given) wanted

-- the result
abbrev pub ended : At → Option TrialDifference → Trial
ended run difference = record { steps = run.steps; difference = difference }

-- the result if there is a difference, and else that of the rest
abbrev pub unless : At → Option TrialDifference → Trial → Trial
unless run None rest = rest
unless run (Some difference) rest = ended run (Some difference)

-- the result of all entries of a scenario
abbrev pub tried : List ℕ → At → List Entry → Trial
tried bytes run [] = ended run None
tried bytes run (entry ∷ rest) =
    unless (later bytes run entry) (stop bytes run entry) (tried bytes (later bytes run entry) rest)

-- the trial before the first job
abbrev pub begun : At
begun = record { state = table.begun (codes "Table") [] table.no_table; given = []; steps = [] }

-- ---- A file

-- nothing differs
abbrev pub is_good : Trial → Bool
is_good own = is_none own.difference

-- the result for a table that has no scenario
abbrev pub without_scenario : Trial
without_scenario = record { steps = []; difference = Some differences.NoScenario }

-- the result for a file that is not a table
abbrev pub no_table : TableFault → Trial
no_table fault = record { steps = []; difference = Some (differences.NoTable (fault_text fault)) }

-- the result for a table, or for a file that is none
abbrev pub if_table : Result OwnedTable TableFault → Trial → Trial
if_table (Ok read) own = own
if_table (Err fault) own = no_table fault

-- the result of trying a file on a scenario
abbrev pub trial : List ℕ → List ℕ → Trial
trial bytes scenario = if_table (table_of bytes) (tried bytes begun (scenario_entries scenario))
