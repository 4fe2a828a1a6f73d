use Rattle.std.proofs.Common.{rules}
use Rattle.wh_match.proofs.script.Script.early_fault.Goals as goal

pub returns-else-self-ge-MOST_COMMANDS : goal.returns-else-self-ge-MOST_COMMANDS
returns-else-self-ge-MOST_COMMANDS c = search rules
