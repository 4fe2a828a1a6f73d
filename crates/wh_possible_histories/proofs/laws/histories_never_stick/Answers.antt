use Rattle.wh_possible_histories.proofs.Histories as histories
use Rattle.wh_rows.specs.Lawful.{rows_lawful}
use Rattle.wh_possible_histories.proofs.laws.histories_never_stick.Goals as goal

pub returns : goal.returns
returns g c = histories.histories_never_stick g.T.Table.table (rows_lawful g.T.Table.table g.met.T.Table.faultless)
