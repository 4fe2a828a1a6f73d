use Rattle.wh_events.proofs.Cutting.{live_cut, recorded_cut, cuts_listed}
use Rattle.wh_events.proofs.laws.cuts_are_said.Goals as goal

pub returns-clause-live : goal.returns-clause-live
returns-clause-live c = live_cut

pub returns-clause-recorded : goal.returns-clause-recorded
returns-clause-recorded c = recorded_cut

pub returns-clause-listed : goal.returns-clause-listed
returns-clause-listed c = cuts_listed
