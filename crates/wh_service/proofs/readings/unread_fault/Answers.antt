use Rattle.wh_service.proofs.Faults.{of_none}
use Rattle.wh_service.proofs.readings.unread_fault.Goals as goal

-- a file that can't be read for another reason has no detail
pub returns-in_default : goal.returns-in_default
returns-in_default g c = of_none g.W.Workflow.program c.args.name.now c.args.bytes.now c.args.fault.now c.requires c.in_default.not-BadJson
