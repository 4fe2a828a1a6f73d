use Rattle.wh_table_picture.proofs.picture.StubDisplay.fmt.Goals as goal

pub returns-clause-writes : goal.returns-clause-writes
returns-clause-writes g c = λ plain ok. rw (c.top_of.ensures, c.top_of-2.ensures) at (c.write.ensures.writes plain ok)
