use Rattle.std.proofs.Common.{◌∙◌}
use Rattle.wh_view.proofs.Indices.{last_none}
use Rattle.wh_view.proofs.gathering.Gathering.new.Goals as goal

pub invariant_of-result : goal.invariant_of-result
invariant_of-result c = λ number. rw (c.new.ensures.items, c.new-3.ensures.empty) (last_none number)
