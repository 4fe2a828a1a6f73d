use Rattle.wh_html.proofs.picture.BeforeDisplay.fmt.Goals as goal

pub returns-in-Some-clause-writes : goal.returns-in-Some-clause-writes
returns-in-Some-clause-writes g c = rw c.in-Some.is (λ plain ok. rw (c.saturating_sub-width.ensures, c.saturating_sub-height.ensures) at (c.write.ensures.writes plain ok))
