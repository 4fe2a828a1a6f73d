-- The workflow that gets its table with each run, as a program.
use Rattle.std.specs.Prelude.{ℕ, ◌==◌, List, [], ◌∷◌, codes, bytes_eq, Bool, true, Result, Ok, Err}
use Rattle.std.proofs.Common.{refl}
use Rattle.std.specs.List.{before_first}
use Rattle.wh_events.specs.declared.event.Payload.{Payload}
use Rattle.wh_workflow.specs.declared.job.Job.{Job}
use Rattle.wh_workflow.specs.declared.job.Job.TheVariants as jobs
use Rattle.wh_workflow.specs.declared.command.Command.{Command}
use Rattle.wh_workflow.specs.declared.command.Command.TheVariants as commands
use Rattle.wh_workflow.specs.Law.{Program, IsAnswer, IsLawful}
use Rattle.wh_workflow.specs.Answering.{one_is_answer}
use Rattle.wh_rows.specs.declared.row.Naming.TheVariants as namings
use Rattle.wh_rows.specs.Rows as rows
use Rattle.wh_row_rules.specs.declared.owned.OwnedTable.{OwnedTable}
use Rattle.wh_row_rules.specs.Broken.{definition}
use Rattle.wh_table_text.specs.declared.fault.TableFault.{TableFault}
use Rattle.wh_table_text.specs.declared.fault.TableFault.TheVariants as faults
use Rattle.wh_table_text.specs.Reading.{table_of}
use Rattle.wh_table_text.specs.Texts.{fault_text}
use Rattle.wh_table.specs.declared.state.TableState.{TableState}
use Rattle.wh_table.specs.Carrying.{held, held_answers}

-- the type is `Table`, or `Table:` followed by a name
abbrev pub is_table : List ℕ → Bool
is_table kind = bytes_eq (before_first (λ b. b == 58) kind) (codes "Table")

-- the first payload, if there is one
abbrev pub front : List Payload → List Payload
front [] = []
front (first ∷ others) = first ∷ []

-- all payloads but the first
abbrev pub tail : List Payload → List Payload
tail [] = []
tail (first ∷ others) = others

-- the table in the first payload, or the fault if it is not a table
abbrev pub table_in : List Payload → Result OwnedTable TableFault
table_in [] = Err faults.NoTable
table_in (first ∷ others) = table_of first.content

-- a table without rows, for a run that has none
abbrev pub no_table : OwnedTable
no_table = record { first = []; name = namings.Nameless; bounds = record { a = 0; b = 0; c = 0; d = 0 }; rows = [] }

-- a run of this type, with this payload and table
abbrev pub begun : List ℕ → List Payload → OwnedTable → TableState
begun kind payload table = record {
  kind = kind;
  payload = payload;
  table = table;
  run = rows.initial (definition table);
}

-- a run that failed at its start
abbrev pub failed : List ℕ → List Payload → TableState
failed kind payload = record {
  kind = kind;
  payload = payload;
  table = no_table;
  run = record (rows.initial (definition no_table)) { closed = true };
}

-- the state after a job by the rows of the table
abbrev pub followed : TableState → Job → TableState
followed state job = record state { run = rows.after (definition state.table) state.run job }

-- the commands that the rows of the table give to a job, with the table added for a new run
abbrev pub given : TableState → Job → List Command
given state job = held state.kind state.payload (rows.gives (definition state.table) state.run job)

-- the state after the start
abbrev pub opened : List ℕ → List Payload → Result OwnedTable TableFault → Job → TableState
opened kind payload (Ok table) job = followed (begun kind payload table) job
opened kind payload (Err fault) job = failed kind payload

-- the commands at the start: without a table the run fails, with the reason
abbrev pub opening : List ℕ → List Payload → Result OwnedTable TableFault → Job → List Command
opening kind payload (Ok table) job = given (begun kind payload table) job
opening kind payload (Err fault) job = commands.Fail (fault_text fault) ∷ []

-- the state after a job
abbrev pub after : TableState → Job → TableState
after state (jobs.Start kind input) = opened kind (front input) (table_in input) (jobs.Start kind (tail input))
after state job = followed state job

-- the commands that a run gives to a job
abbrev pub gives : TableState → Job → List Command
gives state (jobs.Start kind input) = opening kind (front input) (table_in input) (jobs.Start kind (tail input))
gives state job = given state job

-- the workflow as a program
abbrev pub program : Program TableState
program = record {
  knows = is_table;
  initial = λ kind. begun kind [] no_table;
  after = after;
  gives = gives;
}

-- ---- It is lawful

pub given_answers : (state : TableState) (job : Job) → IsAnswer (given state job)
given_answers state job = held_answers state.kind state.payload (rows.gives (definition state.table) state.run job)

pub opening_answers : (kind : List ℕ) (payload : List Payload) (table : Result OwnedTable TableFault) (job : Job)
    → IsAnswer (opening kind payload table job)
opening_answers kind payload (Ok table) job = given_answers (begun kind payload table) job
opening_answers kind payload (Err fault) job = one_is_answer (commands.Fail (fault_text fault)) refl

-- each step returns commands that it may, whatever the input of the run is
pub program_lawful : IsLawful program
program_lawful state (jobs.Start kind input) = opening_answers kind (front input) (table_in input)
    (jobs.Start kind (tail input))
program_lawful state job = given_answers state job
