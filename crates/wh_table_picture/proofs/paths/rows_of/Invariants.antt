use Rattle.std.proofs.Common.{◌≡◌, ◌++◌, drop}
use Rattle.wh_table_picture.specs.Paths.{rows_of}
use Rattle.wh_table_picture.proofs.paths.rows_of.Given as goal

-- the rows so far and those of the rest are all
abbrev pub invariant-loop-step : goal.invariant-loop-step
invariant-loop-step l = l.rows.items ++ rows_of (drop l.step-index l.way) ≡ rows_of l.way
