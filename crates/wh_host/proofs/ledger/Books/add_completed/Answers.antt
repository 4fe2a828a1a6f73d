use Rattle.std.proofs.Common.{rules}
use Rattle.wh_host.proofs.ledger.Books.add_completed.Goals as goal

pub overflow_add-totals : goal.overflow_add-totals
overflow_add-totals g c = search rules

pub invariant_of-self : goal.invariant_of-self
invariant_of-self g c = search rules

pub returns-clause-books : goal.returns-clause-books
returns-clause-books g c = search rules
