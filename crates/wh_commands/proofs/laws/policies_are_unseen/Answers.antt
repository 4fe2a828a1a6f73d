use Rattle.wh_commands.proofs.Reading.{policies_unseen}
use Rattle.wh_commands.proofs.laws.policies_are_unseen.Goals as goal

pub returns : goal.returns
returns c = policies_unseen
