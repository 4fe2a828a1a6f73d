use Rattle.std.proofs.Common.{rules}
use Rattle.wh_events.proofs.number.EventNo.new.Goals as goal

pub returns-else-number-ge1-clause-within : goal.returns-else-number-ge1-clause-within
returns-else-number-ge1-clause-within c = search rules
