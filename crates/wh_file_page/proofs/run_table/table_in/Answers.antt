use Rattle.std.proofs.Common.{None, Some, ap, refl}
use Rattle.wh_file_page.proofs.Tables.{table_by}
use Rattle.wh_file_page.proofs.run_table.table_in.Goals as goal

-- the table of the path
pub returns-in_ok-run_table-in-Some : goal.returns-in_ok-run_table-in-Some
returns-in_ok-run_table-in-Some c bytes own =
    let taken = c.in_ok-way.ensures in
    table_by bytes (Some c.in-Some.way) _ (rw c.in-Some.is at taken.way bytes own) (rw c.in-Some.is at taken.there bytes own)
    (ap Some c.in_ok-run_table-in-Some.ensures)

-- and none without a path
pub returns-in-None : goal.returns-in-None
returns-in-None c bytes own =
    let taken = c.in_ok-way.ensures in
    table_by bytes None None (rw c.in-None.is at taken.way bytes own) (rw c.in-None.is at taken.there bytes own) refl
