use Rattle.std.proofs.Common.{rules}
use Rattle.wh_activation.proofs.cut_jobs.jobs.Goals as goal

pub returns : goal.returns
returns c = search rules
