use Rattle.std.proofs.Common.{rules}
use Rattle.wh_events.proofs.number.EventNo.get.Goals as goal

pub returns-clause-kept : goal.returns-clause-kept
returns-clause-kept c = search rules
