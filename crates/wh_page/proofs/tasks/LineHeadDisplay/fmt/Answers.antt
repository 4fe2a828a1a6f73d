use Rattle.wh_page.specs.TaskTexts.{line_head_html}
use Rattle.wh_page.proofs.tasks.LineHeadDisplay.fmt.Goals as goal

pub returns-clause-writes : goal.returns-clause-writes
unfolding line_head_html
returns-clause-writes g c = λ plain ok. rw c.word-side.ensures at (c.write.ensures.writes plain ok)
