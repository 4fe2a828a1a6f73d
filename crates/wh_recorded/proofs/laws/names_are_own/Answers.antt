use Rattle.wh_recorded.proofs.Naming.{names_are_own, given_names_are_own}
use Rattle.wh_recorded.proofs.laws.names_are_own.Goals as goal

pub returns-clause-tasks : goal.returns-clause-tasks
returns-clause-tasks c = names_are_own

pub returns-clause-given : goal.returns-clause-given
returns-clause-given c = given_names_are_own
