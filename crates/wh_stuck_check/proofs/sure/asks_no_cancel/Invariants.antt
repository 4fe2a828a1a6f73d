use Rattle.std.proofs.Common.{◌≡◌, drop, map}
use Rattle.wh_stuck_check.specs.Sure.{asks_no_cancel}
use Rattle.wh_stuck_check.specs.Verdicts.{move_of}
use Rattle.wh_stuck_check.proofs.sure.asks_no_cancel.Given as goal

-- none so far asks the run to cancel
abbrev pub invariant-loop-one : goal.invariant-loop-one
invariant-loop-one l =
    asks_no_cancel (map move_of (drop l.one-index l.moves)) ≡ asks_no_cancel (map move_of l.moves)
