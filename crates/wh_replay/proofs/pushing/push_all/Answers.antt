use Rattle.std.proofs.Common.{arith}
use Rattle.wh_replay.proofs.Taking.{few}
use Rattle.wh_replay.proofs.pushing.push_all.Goals as goal

pub overflow_add-result : goal.overflow_add-result
overflow_add-result c = let most = few c.push_each.new.track c.len.ensures.in_place in omega (arith, most, c.len.ensures.len)
