use Rattle.std.proofs.Common.{◌≡◌, drop}
use Rattle.wh_view.specs.Things.{gathered, gathered_from}
use Rattle.wh_view.proofs.gathering.gather_all.Given as goal

-- what is gathered of the rest, after those so far, is gathered of all
abbrev pub invariant-loop-at : goal.invariant-loop-at
invariant-loop-at l = gathered_from l.at (drop l.at l.events) l.gathering ≡ gathered l.events
