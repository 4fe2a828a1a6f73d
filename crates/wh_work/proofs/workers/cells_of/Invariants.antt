use Rattle.std.proofs.Common.{◌≡◌, vec_len}
use Rattle.wh_work.proofs.workers.cells_of.Given as goal

abbrev pub invariant-loop-seat : goal.invariant-loop-seat
invariant-loop-seat l = vec_len l.cells ≡ l._seat
