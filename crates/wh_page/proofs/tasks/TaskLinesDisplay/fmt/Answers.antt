use Rattle.wh_page.specs.TaskTexts.{lines_html}
use Rattle.wh_page.proofs.tasks.TaskLinesDisplay.fmt.Goals as goal

pub returns-clause-writes : goal.returns-clause-writes
unfolding lines_html
returns-clause-writes g c = λ plain ok. rw (c.left_before.ensures, c.shown_lines.ensures, c.left_after.ensures) at (c.write.ensures.writes plain ok)
