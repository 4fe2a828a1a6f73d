use Rattle.wh_rows.proofs.Choosing.{state_changes_by_row}
use Rattle.wh_rows.proofs.laws.state_changes_by_row.Goals as goal

pub returns : goal.returns
returns g c = state_changes_by_row g.T.Table.table
