use Rattle.std.proofs.Common.{rules}
use Rattle.wh_host.proofs.ledger.Books.open.Goals as goal

pub loop-seat-init : goal.loop-seat-init
loop-seat-init g c = search rules
