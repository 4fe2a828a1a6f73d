use Rattle.wh_rpc.proofs.Listing.{run_upwards}
use Rattle.wh_rpc.proofs.laws.ids_run_upwards.Goals as goal

pub returns : goal.returns
returns g c = run_upwards
