use Rattle.std.proofs.Common.{◌≡◌, ◌+◌, drop}
use Rattle.wh_table_promises.specs.Ways.{row_from}
use Rattle.wh_table_promises.proofs.ways.row_of.Given as goal

-- no row so far fits
abbrev pub invariant-loop-place : goal.invariant-loop-place
invariant-loop-place l =
    row_from (l.place + 1) (drop l.place l.rows) l.run l.job ≡ row_from 1 l.rows l.run l.job
