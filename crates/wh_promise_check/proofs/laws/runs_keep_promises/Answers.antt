use Rattle.wh_rows.proofs.Sound as sound
use Rattle.wh_promise_check.proofs.Kept as kept
use Rattle.wh_promise_check.proofs.Runs as runs
use Rattle.wh_rows.specs.Lawful.{rows_lawful}
use Rattle.wh_promise_check.proofs.laws.runs_keep_promises.Goals as goal

pub returns : goal.returns
returns g c =
    runs.runs_keep g.T.Table.table g.T.Promising.promises
    (kept.histories_keep g.T.Table.table (rows_lawful g.T.Table.table g.met.T.Table.faultless) g.T.Promising.promises
    (sound.keeps g.T.Table.table g.T.Promising.promises g.met.T.Promising.promised))
