use Rattle.std.proofs.Common.{rules}
use Rattle.wh_replay.proofs.run.Answer.try_copy.Goals as goal

pub returns-in-Fail : goal.returns-in-Fail
returns-in-Fail c = search rules
