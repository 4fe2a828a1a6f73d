use Rattle.std.proofs.Common.{rules}
use Rattle.wh_host.proofs.ledger.Books.add_failed.Goals as goal

pub invariant_of-self : goal.invariant_of-self
invariant_of-self g c = search rules

pub returns-clause-books : goal.returns-clause-books
returns-clause-books g c = search rules
