use Rattle.std.proofs.Common.{rules}
use Rattle.wh_host.proofs.state.HostState.counts.Goals as goal

pub returns-clause-step : goal.returns-clause-step
returns-clause-step g c = search rules

pub returns-clause-within : goal.returns-clause-within
returns-clause-within g c = search rules
