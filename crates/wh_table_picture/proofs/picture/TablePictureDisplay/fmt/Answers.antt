use Rattle.wh_table_picture.specs.Pictures.{picture_html}
use Rattle.wh_table_picture.proofs.picture.TablePictureDisplay.fmt.Goals as goal

-- with the places in it
pub returns-clause-writes : goal.returns-clause-writes
unfolding picture_html
returns-clause-writes g c = λ plain ok. rw c.top_of.ensures at (c.write.ensures.writes plain ok)
