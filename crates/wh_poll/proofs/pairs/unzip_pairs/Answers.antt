use Rattle.std.proofs.Common.{rules}
use Rattle.wh_poll.proofs.pairs.unzip_pairs.Goals as goal

pub returns-clause-seconds : goal.returns-clause-seconds
returns-clause-seconds g c = search rules
