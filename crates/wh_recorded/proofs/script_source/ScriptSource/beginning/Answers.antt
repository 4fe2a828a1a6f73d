use Rattle.std.proofs.Common.{rules}
use Rattle.wh_recorded.proofs.script_source.ScriptSource.beginning.Goals as goal

pub returns : goal.returns
returns c = search rules
