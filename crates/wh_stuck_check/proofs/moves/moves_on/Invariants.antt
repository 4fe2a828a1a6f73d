use Rattle.std.proofs.Common.{◌≡◌, drop, map}
use Rattle.wh_possible_runs.specs.PossibleRuns.{moves_on}
use Rattle.wh_stuck_check.specs.Verdicts.{move_of}
use Rattle.wh_stuck_check.proofs.moves.moves_on.Given as goal

-- none so far starts the run
abbrev pub invariant-loop-one : goal.invariant-loop-one
invariant-loop-one l =
    moves_on (map move_of (drop l.one-index l.moves)) ≡ moves_on (map move_of l.moves)
