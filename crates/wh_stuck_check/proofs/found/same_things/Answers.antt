use Rattle.std.proofs.Common.{sym}
use Rattle.wh_stuck_check.proofs.Showing.{same_length}
use Rattle.wh_stuck_check.proofs.found.same_things.Goals as goal

pub returns-then-one-other : goal.returns-then-one-other
returns-then-one-other c = sym (same_length c.args.one.now c.args.other.now c.if-one-other.true)
