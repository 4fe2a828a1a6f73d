use Rattle.wh_rows.proofs.Hearing.{answers_are_heard}
use Rattle.wh_rows.proofs.laws.answers_are_heard.Goals as goal

pub returns : goal.returns
returns g c = answers_are_heard g.T.Table.table g.met.T.Table.faultless
