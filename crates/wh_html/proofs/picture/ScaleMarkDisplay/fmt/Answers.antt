use Rattle.wh_html.proofs.picture.ScaleMarkDisplay.fmt.Goals as goal

pub returns-then-self-clause-writes : goal.returns-then-self-clause-writes
returns-then-self-clause-writes g c = rw c.if-self.true (λ plain ok. rw c.saturating_sub.ensures at (c.write.ensures.writes plain ok))
