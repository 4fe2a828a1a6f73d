use Rattle.std.proofs.Common.{rules}
use Rattle.wh_explained_tasks.proofs.Step.new.Goals as goal

pub returns : goal.returns
returns c = search rules
