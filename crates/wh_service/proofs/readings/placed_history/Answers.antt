use Rattle.wh_service.proofs.Faults.{of_misplaced}
use Rattle.wh_service.proofs.readings.placed_history.Goals as goal

-- events that are not in place have no detail
pub returns-in_ok-read_again-in-Err-Fault-clause-fault : goal.returns-in_ok-read_again-in-Err-Fault-clause-fault
returns-in_ok-read_again-in-Err-Fault-clause-fault g c =
    of_misplaced g.W.Workflow.program c.args.name.now c.args.bytes.now c.args.events.items c.in-Err-Fault.field-0-0 c.requires
    (rw c.in-Err-Fault.field-0-is at c.in-Err-Fault.ensures)
