-- How a run is followed, move by move.
use Rattle.std.specs.Prelude.{◌≡◌, List, ◌∷◌, Option}
use Rattle.wh_rows.specs.declared.row.RowsState.{RowsState}
use Rattle.wh_rows.specs.Tables.{Definition}
use Rattle.wh_possible_runs.specs.Situations.{ThingName, Situation}
use Rattle.wh_possible_runs.specs.PossibleRuns.{Move, follow}
use Rattle.wh_stuck_check.specs.declared.fault.StuckCommand.{StuckCommand}
use Rattle.wh_stuck_check.specs.Verdicts.{fault_along}

-- from one state and what the run knows there, a move leads to the next
abbrev pub FollowsOn : Definition → List ThingName → RowsState → Situation → Move → RowsState → Situation → Type 0
FollowsOn table names state now one next_state next =
    (later : List Move) → follow table names state now (one ∷ later) ≡ follow table names next_state next later

-- so does what is known of a command at fault
abbrev pub FaultsOn : Definition → List ThingName → RowsState → Situation → Option StuckCommand → Move → RowsState → Situation
    → Option StuckCommand → Type 0
FaultsOn table names state now held one next_state next fault =
    (later : List Move)
    → fault_along table names state now held (one ∷ later) ≡ fault_along table names next_state next fault later
