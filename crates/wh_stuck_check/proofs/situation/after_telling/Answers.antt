use Rattle.wh_stuck_check.proofs.situation.after_telling.Goals as goal

pub returns-in-Activity : goal.returns-in-Activity
returns-in-Activity c = rw c.in-Activity.is c.after_tidings.ensures

pub returns-in-Child : goal.returns-in-Child
returns-in-Child c = rw c.in-Child.is c.after_tidings-in-Child.ensures
