use Rattle.wh_messages.proofs.Heartbeating.{canceled_apart}
use Rattle.wh_messages.proofs.laws.canceled_activities_are_apart.Goals as goal

pub returns : goal.returns
returns c = canceled_apart
