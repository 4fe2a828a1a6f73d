use Rattle.std.proofs.Common.{rules}
use Rattle.wh_host.proofs.ledger.Books.add_taken.Goals as goal

pub invariant_of-seat : goal.invariant_of-seat
invariant_of-seat g c = search rules

pub returns-clause-seat : goal.returns-clause-seat
returns-clause-seat g c = search rules
