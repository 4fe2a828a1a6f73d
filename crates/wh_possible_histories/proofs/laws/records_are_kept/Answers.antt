use Rattle.wh_possible_histories.proofs.Recorded as recorded
use Rattle.wh_possible_histories.proofs.laws.records_are_kept.Goals as goal

pub returns : goal.returns
returns c = recorded.kept_so
