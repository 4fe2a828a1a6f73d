use Rattle.std.proofs.Common.{◌≡◌, ◌+◌, ◌≤◌, drop}
use Rattle.wh_run_page.specs.Rows.{rows_from}
use Rattle.wh_run_page.proofs.rows.row_count.Given as goal

-- the rows so far and those of the rest are all; each has an index
abbrev pub invariant-loop-index : goal.invariant-loop-index
invariant-loop-index l =
    (l.count + rows_from l.index (drop l.index l.firsts) ≡ rows_from 0 l.firsts) × (l.count ≤ l.index)
