use Rattle.wh_table.proofs.Asking.{goes_on_asks}
use Rattle.wh_table.proofs.carrying.asks_last.Goals as goal

pub loop-command-init : goal.loop-command-init
loop-command-init c = goes_on_asks c.args.commands.now
