use Rattle.std.proofs.Common.{rules}
use Rattle.wh_host.proofs.ledger.Seat.share.Goals as goal

pub returns : goal.returns
returns g c = search rules
