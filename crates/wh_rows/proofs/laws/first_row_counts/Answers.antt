use Rattle.wh_rows.proofs.Choosing.{first_row_counts, no_row_changes_nothing}
use Rattle.wh_rows.proofs.laws.first_row_counts.Goals as goal

pub returns-clause-first : goal.returns-clause-first
returns-clause-first g c = first_row_counts g.T.Table.table

pub returns-clause-none : goal.returns-clause-none
returns-clause-none g c = no_row_changes_nothing g.T.Table.table
