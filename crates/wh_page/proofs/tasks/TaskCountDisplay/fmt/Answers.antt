use Rattle.std.proofs.lemmas.Bool.{ne_eqb}
use Rattle.wh_page.proofs.tasks.TaskCountDisplay.fmt.Goals as goal

pub returns-else-shown-total-clause-writes : goal.returns-else-shown-total-clause-writes
returns-else-shown-total-clause-writes g c =
    rw (ne_eqb c.args.self.now.shown c.args.self.now.total c.if-shown-total.false)
    (λ plain ok. rw (c.saturating_sub-after.ensures, c.saturating_sub.ensures) at (c.write-else-shown-total.ensures.writes plain ok))
