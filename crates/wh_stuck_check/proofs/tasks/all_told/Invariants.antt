use Rattle.std.proofs.Common.{◌≡◌, drop}
use Rattle.wh_possible_runs.specs.Situations.{all_told}
use Rattle.wh_stuck_check.proofs.tasks.all_told.Given as goal

-- each end so far is told
abbrev pub invariant-loop-one : goal.invariant-loop-one
invariant-loop-one l =
    all_told (drop l.one-index l.things) ≡ all_told l.things
