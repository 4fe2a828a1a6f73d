use Rattle.wh_commands.proofs.ServerReading.{commands_read}
use Rattle.wh_commands.proofs.laws.commands_are_read.Goals as goal

pub returns : goal.returns
returns c = commands_read
