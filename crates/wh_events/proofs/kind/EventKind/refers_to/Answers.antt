use Rattle.std.proofs.Common.{rules}
use Rattle.wh_events.proofs.kind.EventKind.refers_to.Goals as goal

pub returns-in-Refers : goal.returns-in-Refers
returns-in-Refers c = search rules
