use Rattle.std.proofs.Common.{◌≡◌, vec_len}
use Rattle.wh_work.proofs.workers.crew_of.Given as goal

abbrev pub invariant-loop-cell : goal.invariant-loop-cell
invariant-loop-cell g l = vec_len l.crew ≡ l.cell-index
