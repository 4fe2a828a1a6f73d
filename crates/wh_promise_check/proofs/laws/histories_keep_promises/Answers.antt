use Rattle.wh_rows.proofs.Sound as sound
use Rattle.wh_promise_check.proofs.Kept as kept
use Rattle.wh_rows.specs.Lawful.{rows_lawful}
use Rattle.wh_promise_check.proofs.laws.histories_keep_promises.Goals as goal

pub returns-clause-courses : goal.returns-clause-courses
returns-clause-courses g c = kept.histories_are_courses g.T.Table.table (rows_lawful g.T.Table.table g.met.T.Table.faultless)

pub returns-clause-kept : goal.returns-clause-kept
returns-clause-kept g c =
    kept.histories_keep g.T.Table.table (rows_lawful g.T.Table.table g.met.T.Table.faultless) g.T.Promising.promises
    (sound.keeps g.T.Table.table g.T.Promising.promises g.met.T.Promising.promised)
