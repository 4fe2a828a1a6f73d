use Rattle.std.proofs.Common.{◌≡◌, ◌++◌, drop}
use Rattle.wh_table_text.specs.Numbered.{numbered}
use Rattle.wh_table_text.specs.Faults.{breaks}
use Rattle.wh_table_text.proofs.listing.broken_rows.Given as goal

-- the faults so far and those of the rows that are left are all
abbrev pub invariant-loop-place : goal.invariant-loop-place
invariant-loop-place l =
    l.faults.items ++ numbered (breaks l.table) l.place (drop l.place l.rows)
    ≡ numbered (breaks l.table) 0 l.rows
