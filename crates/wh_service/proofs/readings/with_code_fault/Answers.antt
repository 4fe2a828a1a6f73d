use Rattle.wh_service.proofs.Faults.{of_code}
use Rattle.wh_service.proofs.readings.with_code_fault.Goals as goal

-- a history that was read has no other detail than that there is no code
pub returns-in-Ok-clause-fault : goal.returns-in-Ok-clause-fault
returns-in-Ok-clause-fault g c =
    of_code g.W.Workflow.program c.args.name.now c.args.bytes.now _ c.in-Ok.fault c.requires.0 (c.in-Ok.ensures c.args.bytes.now c.requires)
