use Rattle.std.proofs.Common.{◌≡◌}
use Rattle.wh_host.proofs.companion.accompany.Given as goal

abbrev pub invariant-loop-round : goal.invariant-loop-round
invariant-loop-round g l = l.spare ≡ l.fn.spare
