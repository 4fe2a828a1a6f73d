use Rattle.std.proofs.Common.{rules}
use Rattle.wh_host.proofs.ledger.Books.audit.Goals as goal

pub returns-clause-within : goal.returns-clause-within
returns-clause-within g c = search rules
