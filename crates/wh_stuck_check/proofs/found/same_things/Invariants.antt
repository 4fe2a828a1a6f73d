use Rattle.std.proofs.Common.{◌≡◌, drop}
use Rattle.wh_possible_runs.specs.Shown.{same_things}
use Rattle.wh_stuck_check.proofs.found.same_things.Given as goal

-- the things so far are the same
abbrev pub invariant-loop-place : goal.invariant-loop-place
invariant-loop-place l =
    same_things (drop l.place l.one) (drop l.place l.other) ≡ same_things l.one l.other
