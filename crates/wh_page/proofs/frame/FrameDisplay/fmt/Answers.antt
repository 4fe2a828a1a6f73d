use Rattle.wh_page.specs.Frames.{frame_html}
use Rattle.wh_page.proofs.frame.FrameDisplay.fmt.Goals as goal

pub returns-clause-writes : goal.returns-clause-writes
unfolding frame_html
returns-clause-writes g c = λ plain ok. rw c.get.ensures at (c.write.ensures.writes plain ok)
