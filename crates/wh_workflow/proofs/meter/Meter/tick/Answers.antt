use Rattle.std.proofs.Common.{rules}
use Rattle.wh_workflow.proofs.meter.Meter.tick.Goals as goal

pub returns-clause-counted : goal.returns-clause-counted
returns-clause-counted c = search rules
