use Rattle.wh_commands.proofs.Reading.{command_back, commands_differ}
use Rattle.wh_commands.proofs.laws.commands_are_read_back.Goals as goal

pub returns-clause-read : goal.returns-clause-read
returns-clause-read c = command_back

pub returns-clause-apart : goal.returns-clause-apart
returns-clause-apart c = commands_differ
