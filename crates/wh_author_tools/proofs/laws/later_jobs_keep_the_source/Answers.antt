use Rattle.wh_author_tools.proofs.Keeping.{jobs_keep}
use Rattle.wh_author_tools.proofs.laws.later_jobs_keep_the_source.Goals as goal

pub returns : goal.returns
returns c = jobs_keep
