use Rattle.wh_rows.proofs.Sound as sound
use Rattle.wh_rows.proofs.laws.keeps_its_promises.Goals as goal

pub returns : goal.returns
returns g c = sound.keeps g.T.Table.table g.T.Promising.promises g.met.T.Promising.promised
