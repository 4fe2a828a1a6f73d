use Rattle.wh_times.proofs.Halves.{median_halves}
use Rattle.wh_times.proofs.laws.median_halves.Goals as goal

pub returns : goal.returns
returns c = median_halves
