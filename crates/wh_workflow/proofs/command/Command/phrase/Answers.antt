use Rattle.std.proofs.Common.{rules}
use Rattle.wh_workflow.proofs.command.Command.phrase.Goals as goal

pub returns-in-CancelTimer : goal.returns-in-CancelTimer
returns-in-CancelTimer c = search rules
