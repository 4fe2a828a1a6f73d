use Rattle.wh_page.specs.TaskTexts.{task_html}
use Rattle.wh_page.proofs.tasks.TaskPartDisplay.fmt.Goals as goal

pub returns-clause-writes : goal.returns-clause-writes
unfolding task_html
returns-clause-writes g c = λ plain ok. rw (c.open_words-open.ensures, c.get.ensures) at (c.write.ensures.writes plain ok)
