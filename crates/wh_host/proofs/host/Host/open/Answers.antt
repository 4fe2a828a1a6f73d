use Rattle.std.proofs.Common.{rules}
use Rattle.wh_host.proofs.host.Host.open.Goals as goal

pub open-requires-clause-taken : goal.open-requires-clause-taken
open-requires-clause-taken g c κs within = search rules

pub open-requires-clause-completed : goal.open-requires-clause-completed
open-requires-clause-completed g c κs within = search rules

pub open-requires-clause-failed : goal.open-requires-clause-failed
open-requires-clause-failed g c κs within = search rules

pub returns-in_err-state-clause-bad : goal.returns-in_err-state-clause-bad
returns-in_err-state-clause-bad g c = search rules

pub returns-clause-seats : goal.returns-clause-seats
returns-clause-seats g c = search rules

pub returns-clause-bad : goal.returns-clause-bad
returns-clause-bad g c = search rules
