use Rattle.wh_workflow.proofs.Strings.{takes_strings}
use Rattle.wh_workflow.proofs.laws.takes_strings_without_escapes.Goals as goal

pub returns : goal.returns
returns c = takes_strings
