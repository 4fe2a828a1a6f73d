use Rattle.wh_slots.proofs.Listing.{run_upwards}
use Rattle.wh_slots.proofs.laws.numbers_run_upwards.Goals as goal

pub returns : goal.returns
returns c = run_upwards
