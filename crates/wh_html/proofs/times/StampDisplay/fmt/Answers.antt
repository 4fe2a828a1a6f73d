use Rattle.wh_html.specs.Times.{instant_text}
use Rattle.wh_html.proofs.times.StampDisplay.fmt.Goals as goal

pub returns-clause-writes : goal.returns-clause-writes
unfolding instant_text
returns-clause-writes g c = λ plain ok. rw (c.date_of-date.ensures.year, c.date_of-date.ensures.month, c.date_of-date.ensures.day, c.min-millis.ensures) at (c.write.ensures.writes plain ok)
