use Rattle.std.proofs.Common.{rules}
use Rattle.wh_host.proofs.state.hand_out.Goals as goal

pub returns-clause-run : goal.returns-clause-run
returns-clause-run g c = search rules

pub returns-clause-runs : goal.returns-clause-runs
returns-clause-runs g c = search rules
