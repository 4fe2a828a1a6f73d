use Rattle.wh_table_picture.proofs.page.FileVerdictDisplay.fmt.Goals as goal

pub returns-clause-writes : goal.returns-clause-writes
returns-clause-writes g c = λ plain ok. rw (c.verdict_class-class.ensures, c.verdict_word-verdict.ensures) at (c.write.ensures.writes plain ok)
