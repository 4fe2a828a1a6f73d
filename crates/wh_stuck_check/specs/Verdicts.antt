-- What is found of a table is right.
use Rattle.std.specs.Prelude.{◌≡◌, ◌&&◌, List, [], ◌∷◌, map, Option, Some, None, IsTrue, IsFalse}
use Rattle.wh_rows.specs.declared.row.RowsState.{RowsState}
use Rattle.wh_rows.specs.Tables.{Definition}
use Rattle.wh_rows.specs.Rows.{gives, after, initial}
use Rattle.wh_possible_runs.specs.Situations.{ThingName, Situation, after_commands, after_job, next_task, new_situation}
use Rattle.wh_possible_runs.specs.PossibleRuns.{Move, GivesJob, NextTask, moves_begin, follow_run, IsStuckFree}
use Rattle.wh_possible_runs.specs.Shown.{are_plain, names_of, plain_names}
use Rattle.wh_stuck_check.specs.declared.fault.StuckCommand.{StuckCommand}
use Rattle.wh_stuck_check.specs.declared.moves.ServerMove.{ServerMove}
use Rattle.wh_stuck_check.specs.declared.moves.ServerMove.TheVariants as moves
use Rattle.wh_stuck_check.specs.Sure.{are_sure}
use Rattle.wh_stuck_check.specs.declared.verdict.StuckDoubt.TheVariants as doubts
use Rattle.wh_stuck_check.specs.declared.verdict.StuckVerdict.{StuckVerdict}
use Rattle.wh_stuck_check.specs.declared.verdict.StuckVerdict.TheVariants as verdicts
use Rattle.wh_stuck_check.specs.Faults.{fault_from}

-- a move
abbrev pub move_of : ServerMove → Move
move_of (moves.GivesJob job) = GivesJob job
move_of (moves.NextTask ended) = NextTask ended.items

-- the first command at fault of those that the last of these moves leads to; `held` is that of the move before them
abbrev pub fault_along : Definition → List ThingName → RowsState → Situation → Option StuckCommand → List Move → Option StuckCommand
fault_along table names state now held [] = held
fault_along table names state now held (GivesJob job ∷ later) =
    elim (after_job names job now) [
      | Some next ↦ fault_along table names (after table state job) (after_commands names (gives table state job) next)
          (fault_from 0 names (gives table state job) next) later
      | None ↦ None
    ]
fault_along table names state now held (NextTask ended ∷ later) =
    elim (next_task names ended now) [
      | Some next ↦ fault_along table names state next None later
      | None ↦ None
    ]

-- the first command at fault of those that the last of a run's moves leads to
abbrev pub last_fault : Definition → List ThingName → List Move → Option StuckCommand
last_fault table names moves = fault_along table names (initial table) (new_situation names) None moves

-- a server can make these moves, and the last of them leads to this command at fault
pub record IsStuckBy (table : Definition) (names : List ThingName) (moves : List Move) (command : StuckCommand) : Type 0 where
  -- what the run knows in the end
  pub now : Situation
  pub begins : IsTrue (moves_begin moves)
  pub follows : follow_run table names moves ≡ Some now
  pub faulty : IsTrue now.faulty
  pub fault : last_fault table names moves ≡ Some command

-- a verdict is right: no run gets stuck; or a server can make these moves, by which one does, and they are sure to be its
-- own; or the rows or the ids of things use the name of the run
abbrev pub IsRight : Definition → StuckVerdict → Type 0
IsRight table verdicts.NeverStuck = IsStuckFree table (names_of table)
IsRight table (verdicts.GetsStuck run) =
    IsStuckBy table (names_of table) (map move_of run.moves.items) run.command
    × IsTrue (are_sure (map move_of run.moves.items))
IsRight table (verdicts.NotDecided doubts.ByName) = IsFalse (are_plain table.rows && plain_names (names_of table))
IsRight table (verdicts.NotDecided _) = Unit {0}
