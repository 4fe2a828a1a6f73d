use Rattle.std.proofs.Common.{rules}
use Rattle.wh_events.proofs.lists.Items.try_copy.Goals as goal

pub returns : goal.returns
returns g c = search rules
