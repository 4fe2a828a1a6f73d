use Rattle.std.proofs.Common.{rules}
use Rattle.wh_host.proofs.state.mark_place.Goals as goal

pub returns-in-Some-clause-mark : goal.returns-in-Some-clause-mark
returns-in-Some-clause-mark c = search rules
