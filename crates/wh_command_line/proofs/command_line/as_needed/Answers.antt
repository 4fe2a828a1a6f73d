use Rattle.std.proofs.Common.{ap}
use Rattle.clap.specs.Words.{rule_of}
use Rattle.wh_command_line.proofs.command_line.as_needed.Goals as goal

pub returns-clause-rule : goal.returns-clause-rule
returns-clause-rule c = ap rule_of c.required.ensures
