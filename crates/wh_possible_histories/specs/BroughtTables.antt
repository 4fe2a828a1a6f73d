-- A history of a run that got its table with its input, if that table never gets stuck.
use Rattle.std.specs.Prelude.{◌≡◌, ℕ, List, [], ◌∷◌, Ok, Err, IsTrue, IsFalse}
use Rattle.wh_events.specs.declared.event.Event.{Event}
use Rattle.wh_events.specs.declared.event.Payload.{Payload}
use Rattle.wh_workflow.specs.declared.fault.WorkflowFault.{WorkflowFault}
use Rattle.wh_replay.specs.declared.fault.Fault.TheVariants.{Workflow as WorkflowFaulty}
use Rattle.wh_replay.specs.Replays.{replay}
use Rattle.wh_row_rules.specs.declared.owned.OwnedTable.{OwnedTable}
use Rattle.wh_row_rules.specs.Broken.{definition}
use Rattle.wh_table_text.specs.Reading.{table_of}
use Rattle.wh_table.specs.Program.{table_in, program}
use Rattle.wh_promise_check.specs.Kept.{input_of}
use Rattle.wh_stuck_check.specs.declared.verdict.StuckVerdict.TheVariants.{NeverStuck}
use Rattle.wh_stuck_check.specs.Verdicts.{IsRight}
use Rattle.wh_possible_runs.specs.PossibleRuns.{IsStuckFree}
use Rattle.wh_possible_runs.specs.Shown.{are_plain, names_of}
use Rattle.wh_possible_histories.specs.Tellings.{is_stuck}
use Rattle.wh_possible_histories.specs.NextTasks.{start_once}
use Rattle.wh_possible_histories.specs.NeverSticks.{HasRecords}

-- The input of a history of the workflow `Table` begins with a table. If no run of it that a server can make gets stuck,
-- and it uses the name of the run nowhere, then replay of the history, whose commanded events all belong to the records
-- of its cuts, and in which no child is said twice to have started, finds no task that fails with `IdInUse`, `IdReused`,
-- `NotOpen` or `AlreadyCancelling`.
abbrev pub BroughtTablesNeverStick : Type 0
BroughtTablesNeverStick =
    (events : List Event) (table : OwnedTable) → table_in (input_of events) ≡ Ok table
    → IsTrue (are_plain (definition table).rows) → IsStuckFree (definition table) (names_of (definition table))
    → HasRecords events → IsTrue (start_once [] events) → (meter at : ℕ) (fault : WorkflowFault)
    → replay program events meter ≡ Err (WorkflowFaulty at fault) → IsFalse (is_stuck fault)

-- so it is if `check` decides of the table that reads from the first payload that it never gets stuck, and is right
abbrev pub CheckedTablesNeverStick : Type 0
CheckedTablesNeverStick =
    (events : List Event) (first : Payload) (others : List Payload) → input_of events ≡ first ∷ others
    → (table : OwnedTable) → table_of first.content ≡ Ok table
    → IsTrue (are_plain (definition table).rows) → IsRight (definition table) NeverStuck
    → HasRecords events → IsTrue (start_once [] events) → (meter at : ℕ) (fault : WorkflowFault)
    → replay program events meter ≡ Err (WorkflowFaulty at fault) → IsFalse (is_stuck fault)
