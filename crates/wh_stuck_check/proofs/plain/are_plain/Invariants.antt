use Rattle.std.proofs.Common.{◌≡◌, drop}
use Rattle.wh_possible_runs.specs.Shown.{are_plain}
use Rattle.wh_stuck_check.proofs.plain.are_plain.Given as goal

-- the rows so far are plain
abbrev pub invariant-loop-row : goal.invariant-loop-row
invariant-loop-row l =
    are_plain (drop l.row-index l.rows) ≡ are_plain l.rows
