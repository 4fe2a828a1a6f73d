use Rattle.std.proofs.Common.{rules}
use Rattle.wh_recorded.proofs.script_source.ScriptSourceTaskSource.whole.Goals as goal

pub returns-clause-fetched : goal.returns-clause-fetched
returns-clause-fetched c = search rules
