-- The runs of a table that a server can make, and whether one of them gets stuck: a task fails, since one of its
-- commands is at fault.
use Rattle.std.specs.Prelude.{◌≡◌, Bool, true, false, not, ◌&&◌, List, [], ◌∷◌, Option, Some, None, IsTrue, IsFalse}
use Rattle.wh_workflow.specs.declared.job.Job.{Job}
use Rattle.wh_workflow.specs.declared.job.Job.TheVariants as jobs
use Rattle.wh_rows.specs.declared.row.RowsState.{RowsState}
use Rattle.wh_rows.specs.Tables.{Definition}
use Rattle.wh_rows.specs.Rows.{is_start, gives, after, initial}
use Rattle.wh_possible_runs.specs.Situations.{ThingName, Situation, after_commands, after_job, next_task, new_situation}

-- what a server does
pub data Move : Type 0 where
  -- it gives the run a job
  GivesJob : Job → Move
  -- the next task begins; for each thing, whether it has ended since the task before
  NextTask : List Bool → Move

-- the jobs that moves give
abbrev pub jobs_in : List Move → List Job
jobs_in [] = []
jobs_in (GivesJob job ∷ later) = job ∷ jobs_in later
jobs_in (NextTask ended ∷ later) = jobs_in later

-- none of the moves starts the run
abbrev pub moves_on : List Move → Bool
moves_on [] = true
moves_on (GivesJob job ∷ later) = not (is_start job) && moves_on later
moves_on (NextTask ended ∷ later) = moves_on later

-- the moves begin as for a real run: a start, with nothing but the time before it, and no start after it
abbrev pub moves_begin : List Move → Bool
moves_begin [] = true
moves_begin (GivesJob (jobs.Start _ _) ∷ later) = moves_on later
moves_begin (GivesJob (jobs.Time _) ∷ later) = moves_begin later
moves_begin _ = false

-- what a run knows in the end, from a state on; `None` if no server makes these moves
abbrev pub follow : Definition → List ThingName → RowsState → Situation → List Move → Option Situation
follow table names state now [] = Some now
follow table names state now (GivesJob job ∷ later) =
    elim (after_job names job now) [
      | Some next ↦ follow table names (after table state job)
          (after_commands names (gives table state job) next) later
      | None ↦ None
    ]
follow table names state now (NextTask ended ∷ later) =
    elim (next_task names ended now) [
      | Some next ↦ follow table names state next later
      | None ↦ None
    ]

-- what a run knows in the end
abbrev pub follow_run : Definition → List ThingName → List Move → Option Situation
follow_run table names moves = follow table names (initial table) (new_situation names) moves

-- No run that a server can make has a command at fault: `IdInUse`, `IdReused`, `NotOpen` or `AlreadyCancelling`. The
-- names are those of all that the table opens or cancels.
abbrev pub IsStuckFree : Definition → List ThingName → Type 0
IsStuckFree table names =
    (moves : List Move) (now : Situation) → IsTrue (moves_begin moves)
    → follow_run table names moves ≡ Some now → IsFalse now.faulty
