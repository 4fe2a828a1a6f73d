use Rattle.std.proofs.Common.{◌≡◌, drop, map}
use Rattle.wh_stuck_check.specs.Sure.{gives_no_version}
use Rattle.wh_stuck_check.specs.Verdicts.{move_of}
use Rattle.wh_stuck_check.proofs.sure.gives_no_version.Given as goal

-- none so far gives a version
abbrev pub invariant-loop-one : goal.invariant-loop-one
invariant-loop-one l =
    gives_no_version (map move_of (drop l.one-index l.moves)) ≡ gives_no_version (map move_of l.moves)
