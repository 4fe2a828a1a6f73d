use Rattle.wh_work.proofs.Sticky.{kept_beside_sticky, sticky_keeps, two_keep_asked}
use Rattle.wh_work.proofs.laws.runs_are_kept_beside_a_sticky_queue.Goals as goal

pub returns-clause-kept : goal.returns-clause-kept
returns-clause-kept c = kept_beside_sticky

pub returns-clause-sticky : goal.returns-clause-sticky
returns-clause-sticky c = sticky_keeps

pub returns-clause-asked : goal.returns-clause-asked
returns-clause-asked c = two_keep_asked
