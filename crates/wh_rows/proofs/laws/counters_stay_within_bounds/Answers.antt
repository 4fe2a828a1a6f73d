use Rattle.wh_rows.proofs.Counting.{within_bounds}
use Rattle.wh_rows.proofs.laws.counters_stay_within_bounds.Goals as goal

pub returns : goal.returns
returns g c = within_bounds g.T.Table.table
