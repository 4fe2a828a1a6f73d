use Rattle.std.proofs.Common.{rules}
use Rattle.wh_explained_tasks.proofs.Pairing.of.Goals as goal

pub returns-else-alike : goal.returns-else-alike
returns-else-alike c = search rules
