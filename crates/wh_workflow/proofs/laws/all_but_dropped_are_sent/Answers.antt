use Rattle.wh_workflow.proofs.Sending.{sends_all_but_dropped, drops_pairs}
use Rattle.wh_workflow.proofs.laws.all_but_dropped_are_sent.Goals as goal

pub returns-clause-rest : goal.returns-clause-rest
returns-clause-rest c = sends_all_but_dropped

pub returns-clause-pairs : goal.returns-clause-pairs
returns-clause-pairs c = drops_pairs
