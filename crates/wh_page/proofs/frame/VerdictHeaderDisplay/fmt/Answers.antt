use Rattle.wh_page.specs.Frames.{verdict_html}
use Rattle.wh_page.proofs.frame.VerdictHeaderDisplay.fmt.Goals as goal

pub returns-clause-writes : goal.returns-clause-writes
unfolding verdict_html
returns-clause-writes g c = λ plain ok. rw c.verdict_class-class.ensures at (c.write.ensures.writes plain ok)
