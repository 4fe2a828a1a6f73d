use Rattle.wh_html.specs.Pictures.{picture_html}
use Rattle.wh_html.proofs.picture.PictureDisplay.fmt.Goals as goal

pub returns-clause-writes : goal.returns-clause-writes
unfolding picture_html
returns-clause-writes g c = λ plain ok. rw (c.top_of-bottom.ensures, c.first_time.ensures) at (c.write.ensures.writes plain ok)
