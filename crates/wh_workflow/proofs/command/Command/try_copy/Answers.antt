use Rattle.std.proofs.Common.{rules}
use Rattle.wh_workflow.proofs.command.Command.try_copy.Goals as goal

pub returns : goal.returns
returns c = search rules
