use Rattle.std.proofs.Common.{◌≡◌, ◌++◌, drop}
use Rattle.wh_table_text.specs.Numbered.{numbered}
use Rattle.wh_table_check.specs.Warnings.{row_warnings}
use Rattle.wh_table_check.proofs.warning.add_rows.Given as goal

-- the warnings so far and those of the rows that are left are all
abbrev pub invariant-loop-place : goal.invariant-loop-place
invariant-loop-place l =
    l.found.items ++ numbered (row_warnings l.naming l.rows) l.place (drop l.place l.rows)
    ≡ l.initial.found.items ++ numbered (row_warnings l.naming l.rows) 0 l.rows
