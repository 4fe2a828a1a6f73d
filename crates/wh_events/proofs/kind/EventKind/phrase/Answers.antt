use Rattle.std.proofs.Common.{rules}
use Rattle.wh_events.proofs.kind.EventKind.phrase.Goals as goal

pub returns-in-TimerCanceled : goal.returns-in-TimerCanceled
returns-in-TimerCanceled c = search rules
