use Rattle.wh_table_picture.proofs.picture.StateBoxDisplay.fmt.Goals as goal

pub returns-clause-writes : goal.returns-clause-writes
returns-clause-writes g c = λ plain ok. rw (c.top_of-top.ensures, c.top_of.ensures, c.name_class-class.ensures) at (c.write.ensures.writes plain ok)
