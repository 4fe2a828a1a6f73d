use Rattle.wh_page.specs.TaskTexts.{line_html}
use Rattle.wh_page.proofs.tasks.LineRowDisplay.fmt.Goals as goal

pub returns-clause-writes : goal.returns-clause-writes
unfolding line_html
returns-clause-writes g c = λ plain ok. rw c.get.ensures at (c.write.ensures.writes plain ok)
