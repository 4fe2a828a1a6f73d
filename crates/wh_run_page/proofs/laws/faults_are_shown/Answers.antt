use Rattle.wh_run_page.proofs.Chosen.{things_are_as_many_as_fit, fault_is_shown}
use Rattle.wh_run_page.proofs.Turns.{worst_are_shown}
use Rattle.wh_run_page.proofs.laws.faults_are_shown.Goals as goal

pub returns-clause-fit : goal.returns-clause-fit
returns-clause-fit c = things_are_as_many_as_fit

pub returns-clause-fault : goal.returns-clause-fault
returns-clause-fault c = fault_is_shown

pub returns-clause-worst : goal.returns-clause-worst
returns-clause-worst c = worst_are_shown
