use Rattle.std.proofs.Common.{rules}
use Rattle.wh_events.proofs.lists.Text.into_inner.Goals as goal

pub returns : goal.returns
returns c = search rules
