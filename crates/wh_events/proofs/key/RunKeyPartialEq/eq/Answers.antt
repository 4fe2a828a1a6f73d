use Rattle.std.proofs.Common.{rules}
use Rattle.wh_events.proofs.key.RunKeyPartialEq.eq.Goals as goal

pub returns-then-eq : goal.returns-then-eq
returns-then-eq c = search rules
