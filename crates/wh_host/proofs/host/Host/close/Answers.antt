use Rattle.std.proofs.Common.{rules}
use Rattle.wh_host.proofs.host.Host.close.Goals as goal

pub returns-in-Ok-clause-gathered : goal.returns-in-Ok-clause-gathered
returns-in-Ok-clause-gathered g c = search rules

pub returns-in-Ok-clause-balanced : goal.returns-in-Ok-clause-balanced
returns-in-Ok-clause-balanced g c = search rules
