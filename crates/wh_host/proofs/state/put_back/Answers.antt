use Rattle.std.proofs.Common.{rules}
use Rattle.wh_host.proofs.state.put_back.Goals as goal

pub returns : goal.returns
returns g c = search rules
