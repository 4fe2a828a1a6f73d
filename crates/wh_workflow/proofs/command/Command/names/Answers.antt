use Rattle.std.proofs.Common.{rules}
use Rattle.wh_workflow.proofs.command.Command.names.Goals as goal

pub returns-then-same-4 : goal.returns-then-same-4
returns-then-same-4 c = search rules
