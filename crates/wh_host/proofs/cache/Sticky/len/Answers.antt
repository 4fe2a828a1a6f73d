use Rattle.std.proofs.Common.{rules}
use Rattle.wh_host.proofs.cache.Sticky.len.Goals as goal

pub returns-clause-len : goal.returns-clause-len
returns-clause-len g c = search rules
