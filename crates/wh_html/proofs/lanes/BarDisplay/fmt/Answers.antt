use Rattle.wh_html.proofs.lanes.BarDisplay.fmt.Goals as goal

pub returns-clause-writes : goal.returns-clause-writes
returns-clause-writes g c = λ plain ok. rw (c.max-width.ensures, c.saturating_sub.ensures) at (c.write.ensures.writes plain ok)
