use Rattle.wh_page.proofs.table.RowHeadDisplay.fmt.Goals as goal

pub returns-clause-writes : goal.returns-clause-writes
returns-clause-writes g c = λ plain ok. rw c.word-kind.ensures at (c.write.ensures.writes plain ok)
