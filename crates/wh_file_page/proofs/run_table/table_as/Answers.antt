use Rattle.std.proofs.Common.{None, refl}
use Rattle.std.specs.Prelude.{IfOk}
use Rattle.wh_file_page.proofs.Members.{not_read, was_read}
use Rattle.wh_file_page.proofs.run_table.table_as.Goals as goal
use Rattle.wh_file_page.specs.RunTables.{IsTableOf}

-- the table of a run that is replayed
pub returns-in-Some : goal.returns-in-Some
returns-in-Some c only_recorded bytes own =
    was_read only_recorded bytes c.in-Some.read (λ only. IfOk c.table_in.result (IsTableOf only bytes))
    (rw c.in-Some.is at own) (c.table_in.ensures bytes)

-- and none of one that is not
pub returns-in-None : goal.returns-in-None
returns-in-None c only_recorded bytes own =
    not_read only_recorded bytes (λ only. IsTableOf only bytes None) (rw c.in-None.is at own) refl
