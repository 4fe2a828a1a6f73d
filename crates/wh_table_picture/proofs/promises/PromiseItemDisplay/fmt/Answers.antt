use Rattle.wh_table_picture.proofs.promises.PromiseItemDisplay.fmt.Goals as goal

pub returns-clause-writes : goal.returns-clause-writes
returns-clause-writes g c = λ plain ok. rw (c.promise_class-class.ensures, c.promise_mark-mark.ensures) at (c.write.ensures.writes plain ok)
