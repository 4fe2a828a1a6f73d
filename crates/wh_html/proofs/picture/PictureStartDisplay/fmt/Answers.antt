use Rattle.wh_html.proofs.picture.PictureStartDisplay.fmt.Goals as goal

pub returns-clause-writes : goal.returns-clause-writes
returns-clause-writes g c = λ plain ok. rw c.top_of.ensures at (c.write.ensures.writes plain ok)
