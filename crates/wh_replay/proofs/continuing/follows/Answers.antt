use Rattle.std.proofs.Common.{rules}
use Rattle.wh_replay.proofs.continuing.follows.Goals as goal

pub returns-in-Some : goal.returns-in-Some
returns-in-Some c = search rules
