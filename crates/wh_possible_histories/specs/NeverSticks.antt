-- A history of a table that never gets stuck has no task that fails since a command opens or cancels a thing at fault.
use Rattle.std.specs.Prelude.{◌≡◌, ℕ, true, List, [], ◌∷◌, Err, IsTrue, IsFalse, if◌then◌else◌}
use Rattle.wh_events.specs.declared.event.Event.{Event}
use Rattle.wh_events.specs.Cuts.{is_cut, is_recorded, record_of, commanded}
use Rattle.wh_workflow.specs.declared.fault.WorkflowFault.{WorkflowFault}
use Rattle.wh_replay.specs.declared.fault.Fault.TheVariants.{Workflow as WorkflowFaulty}
use Rattle.wh_replay.specs.Replays.{replay}
use Rattle.wh_rows.specs.Tables.{Definition}
use Rattle.wh_rows.specs.Rows.{program}
use Rattle.wh_possible_runs.specs.PossibleRuns.{IsStuckFree}
use Rattle.wh_possible_runs.specs.Shown.{are_plain, names_of}
use Rattle.wh_possible_histories.specs.Tellings.{is_stuck}
use Rattle.wh_possible_histories.specs.NextTasks.{start_once}

-- the events before the first cut
abbrev pub before_cut : List Event → List Event
before_cut [] = []
before_cut (event ∷ rest) = if is_cut event rest then [] else event ∷ before_cut rest

-- the record of each cut has all commanded events up to the next cut
abbrev pub AreRecorded : List Event → Type 0
AreRecorded [] = Unit {0}
AreRecorded (event ∷ rest) =
    (is_cut event rest ≡ true → is_recorded rest ≡ true → record_of rest ≡ commanded (before_cut rest)) × AreRecorded rest

-- so it is, and no commanded event comes before the first cut: as in each history that a server makes
abbrev pub HasRecords : List Event → Type 0
HasRecords events = (commanded (before_cut events) ≡ []) × AreRecorded events

-- If no run of a table that a server can make gets stuck, and the table uses the name of the run nowhere, then replay of
-- a history whose commanded events all belong to the records of its cuts, and in which no child is said twice to have
-- started, finds no task that fails with `IdInUse`, `IdReused`, `NotOpen` or `AlreadyCancelling`.
abbrev pub HistoriesNeverStick : Definition → Type 0
HistoriesNeverStick table =
    IsTrue (are_plain table.rows) → IsStuckFree table (names_of table)
    → (events : List Event) → HasRecords events → IsTrue (start_once [] events) → (meter at : ℕ) (fault : WorkflowFault)
    → replay (program table) events meter ≡ Err (WorkflowFaulty at fault) → IsFalse (is_stuck fault)
