use Rattle.std.proofs.Common.{rules}
use Rattle.wh_recorded.proofs.script_source.ScriptSourceTaskSource.poll_activity.Goals as goal

pub returns-clause-closed : goal.returns-clause-closed
returns-clause-closed c = search rules
