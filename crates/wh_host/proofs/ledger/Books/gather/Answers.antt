use Rattle.std.proofs.Common.{rules}
use Rattle.wh_host.proofs.ledger.Books.gather.Goals as goal

pub returns-clause-sums : goal.returns-clause-sums
returns-clause-sums g c = search rules

pub returns-clause-missing : goal.returns-clause-missing
returns-clause-missing g c = search rules
