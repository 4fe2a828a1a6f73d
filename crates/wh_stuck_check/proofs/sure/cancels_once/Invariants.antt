use Rattle.std.proofs.Common.{◌≡◌, drop, map}
use Rattle.wh_stuck_check.specs.Sure.{cancels_once}
use Rattle.wh_stuck_check.specs.Verdicts.{move_of}
use Rattle.wh_stuck_check.proofs.sure.cancels_once.Given as goal

-- none so far asks the run to cancel
abbrev pub invariant-loop-place : goal.invariant-loop-place
invariant-loop-place l =
    cancels_once (map move_of (drop l.place l.moves)) ≡ cancels_once (map move_of l.moves)
