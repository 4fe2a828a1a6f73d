use Rattle.wh_possible_histories.proofs.Activated as acted
use Rattle.wh_rows.specs.Lawful.{rows_lawful}
use Rattle.wh_possible_histories.proofs.laws.activations_never_stick.Goals as goal

pub returns : goal.returns
returns g c = λ names. acted.never_sticks g.T.Table.table names (rows_lawful g.T.Table.table g.met.T.Table.faultless)
