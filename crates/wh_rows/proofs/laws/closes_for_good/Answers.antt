use Rattle.wh_rows.proofs.Closing.{closes_for_good, last_command_closes}
use Rattle.wh_rows.proofs.laws.closes_for_good.Goals as goal

pub returns-clause-step : goal.returns-clause-step
returns-clause-step g c = last_command_closes g.T.Table.table g.met.T.Table.faultless

pub returns-clause-later : goal.returns-clause-later
returns-clause-later g c = closes_for_good g.T.Table.table
