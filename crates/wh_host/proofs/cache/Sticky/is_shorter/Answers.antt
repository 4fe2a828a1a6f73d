use Rattle.std.proofs.Common.{rules}
use Rattle.wh_host.proofs.cache.Sticky.is_shorter.Goals as goal

pub returns-in-None : goal.returns-in-None
returns-in-None g c = search rules
