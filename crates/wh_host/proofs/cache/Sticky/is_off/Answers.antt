use Rattle.std.proofs.Common.{rules}
use Rattle.wh_host.proofs.cache.Sticky.is_off.Goals as goal

pub returns : goal.returns
returns g c = search rules
