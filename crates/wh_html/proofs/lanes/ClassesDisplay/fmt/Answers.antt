use Rattle.wh_html.proofs.lanes.ClassesDisplay.fmt.Goals as goal

pub returns-clause-writes : goal.returns-clause-writes
returns-clause-writes g c =
    λ plain ok. rw (c.word-kind.ensures, c.class-outcome.ensures, c.hit_class-hit.ensures, c.is_hit.ensures) at (c.write.ensures.writes plain ok)
