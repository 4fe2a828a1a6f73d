use Rattle.wh_times.proofs.Longest.{slowest_is_longest}
use Rattle.wh_times.proofs.laws.slowest_is_longest.Goals as goal

pub returns : goal.returns
returns c = slowest_is_longest
