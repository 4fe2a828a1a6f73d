use Rattle.std.proofs.Common.{rules}
use Rattle.wh_command_line.proofs.command_line.plan_or_refusal.Goals as goal

pub returns-in_default : goal.returns-in_default
returns-in_default c = search rules
