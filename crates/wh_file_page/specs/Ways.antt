-- The path of a run through the rows of its table.
use Rattle.std.specs.Prelude.{◌≡◌, ℕ, ◌+◌, nat_eq, List, [], ◌∷◌, ◌++◌, length, codes, Option, Some, None, Result, Ok, Err, if◌then◌else◌}
use Rattle.wh_json.specs.Events.{history}
use Rattle.wh_workflow.specs.declared.job.Job.{Job}
use Rattle.wh_workflow.specs.declared.job.Job.TheVariants as jobs
use Rattle.wh_workflow.specs.ActivationScripts.{Step, state_after}
use Rattle.wh_explained_tasks.specs.declared.ExplainedTask.{ExplainedTask}
use Rattle.wh_explain.specs.Explaining.{AreTasksIn}
use Rattle.wh_rows.specs.declared.row.RowsState.{RowsState}
use Rattle.wh_rows.specs.Tables.{Row, Definition}
use Rattle.wh_rows.specs.Rows.{fits, initial, seen_by}
use Rattle.wh_row_rules.specs.declared.owned.OwnedTable.{OwnedTable}
use Rattle.wh_row_rules.specs.Broken.{definition}
use Rattle.wh_table_text.specs.declared.fault.TableFault.{TableFault}
use Rattle.wh_table.specs.declared.state.TableState.{TableState}
use Rattle.wh_table.specs.Program.{tail, table_in, program}
use Rattle.wh_file_page.specs.declared.way.Turn.{Turn}
use Rattle.wh_file_page.specs.declared.way.Way.{Way}

-- the number of the first row that fits, where the first of these has that number
abbrev pub number_from : (number : ℕ) → List Row → RowsState → Job → Option ℕ
number_from number [] state job = None
number_from number (row ∷ rows) state job =
    if fits row state job then Some number else number_from (number + 1) rows state job

-- the number of the first row that fits, counted from 1
abbrev pub number_for : List Row → RowsState → Job → Option ℕ
number_for rows state job = number_from 1 rows state job

-- the row of that number was taken in the state of that name, if one was
abbrev pub turn_to : List ℕ → Option ℕ → List Turn
turn_to name None = []
turn_to name (Some row) = record { state = name; row = row } ∷ []

-- the row that a run of a table takes at a job
abbrev pub turn_in : Definition → RowsState → Job → List Turn
turn_in table state job = turn_to state.at (number_for table.rows (seen_by table state job) job)

-- the same at its start, if its table stands
abbrev pub turn_at_start : Result OwnedTable TableFault → Job → List Turn
turn_at_start (Ok table) job = turn_in (definition table) (initial (definition table)) job
turn_at_start (Err fault) job = []

-- the row that a run which brings its table takes at a job
abbrev pub turn_at : TableState → Job → List Turn
turn_at state (jobs.Start kind input) = turn_at_start (table_in input) (jobs.Start kind (tail input))
turn_at state job = turn_in (definition state.table) state.run job

-- those that it takes at the jobs of steps, one after another
abbrev pub turns_over : TableState → List Step → List Turn
turns_over state [] = []
turns_over state (step ∷ steps) = turn_at state step.job ++ turns_over (program.after state step.job) steps

-- those of tasks
abbrev pub turns_of : TableState → List ExplainedTask → List Turn
turns_of state [] = []
turns_of state (task ∷ tasks) = turns_over state task.steps ++ turns_of (state_after program state task.steps) tasks

-- what tasks leave
abbrev pub left_by : TableState → List ExplainedTask → TableState
left_by state [] = state
left_by state (task ∷ tasks) = left_by (state_after program state task.steps) tasks

-- the path of a run that is left so, if it has a table
abbrev pub way_to : TableState → List Turn → Option Way
way_to left turns = if nat_eq (length left.table.rows) 0 then None else Some (record { turns = turns; left = left })

-- a run before its start
abbrev pub before_start : TableState
before_start = program.initial (codes "Table")

-- the path of a run over its tasks
abbrev pub way_over : List ExplainedTask → Option Way
way_over tasks = way_to (left_by before_start tasks) (turns_of before_start tasks)

-- the path of the run of a history file: over the tasks that replay gives to the workflow, up to the first with a fault
pub record IsWayOf (bytes : List ℕ) (way : Option Way) : Type 0 where
  pub tasks : List ExplainedTask
  pub explained : AreTasksIn program (history bytes) tasks
  pub is : way ≡ way_over tasks
