use Rattle.wh_work.proofs.Outcomes.{outcomes_add_up}
use Rattle.wh_work.proofs.laws.outcomes_add_up.Goals as goal

pub returns : goal.returns
returns c = outcomes_add_up
