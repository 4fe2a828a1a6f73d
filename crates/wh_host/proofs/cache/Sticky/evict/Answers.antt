use Rattle.std.proofs.Common.{rules}
use Rattle.wh_host.proofs.cache.Sticky.evict.Goals as goal

pub returns-clause-found : goal.returns-clause-found
returns-clause-found g c = search rules
