use Rattle.std.proofs.Common.{rules}
use Rattle.wh_host.proofs.state.count_outcome.Goals as goal

pub returns-in-Failed-clause-books : goal.returns-in-Failed-clause-books
returns-in-Failed-clause-books g c = search rules

pub returns-in-Failed-clause-seat : goal.returns-in-Failed-clause-seat
returns-in-Failed-clause-seat g c = search rules
