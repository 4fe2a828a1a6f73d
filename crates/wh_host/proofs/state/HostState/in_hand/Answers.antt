use Rattle.std.proofs.Common.{rules}
use Rattle.wh_host.proofs.state.HostState.in_hand.Goals as goal

pub returns-clause-in_hand : goal.returns-clause-in_hand
returns-clause-in_hand g c = search rules
