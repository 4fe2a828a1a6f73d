use Rattle.std.proofs.Common.{rules}
use Rattle.wh_events.proofs.kind.EventKind.role.Goals as goal

pub returns-in-ActivityTaskCancelRequested : goal.returns-in-ActivityTaskCancelRequested
returns-in-ActivityTaskCancelRequested c = search rules
