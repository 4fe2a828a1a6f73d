use Rattle.std.proofs.Common.{rules}
use Rattle.wh_recorded.proofs.script_source.ScriptSource.next_place.Goals as goal

pub returns-in-Some-clause-exact : goal.returns-in-Some-clause-exact
returns-in-Some-clause-exact c = search rules

pub returns-clause-exact : goal.returns-clause-exact
returns-clause-exact c = search rules
