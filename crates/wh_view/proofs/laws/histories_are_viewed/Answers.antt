use Rattle.wh_view.proofs.Whole.{bodies_viewed, none_has_a_fault}
use Rattle.wh_view.proofs.laws.histories_are_viewed.Goals as goal

pub returns-clause-bodies : goal.returns-clause-bodies
returns-clause-bodies c = bodies_viewed

pub returns-clause-faults : goal.returns-clause-faults
returns-clause-faults c = none_has_a_fault
