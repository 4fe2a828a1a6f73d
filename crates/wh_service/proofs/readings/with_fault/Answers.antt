use Rattle.std.proofs.Common.{◌∙◌, ap, sym}
use Rattle.std.specs.Prelude.{not}
use Rattle.wh_replay.specs.Replays.{workflow_of}
use Rattle.wh_service.proofs.Faults.{of_coded}
use Rattle.wh_service.proofs.readings.with_fault.Goals as goal

-- a history for whose workflow type there is code has no detail
pub returns-else-lacks_code-clause-fault : goal.returns-else-lacks_code-clause-fault
returns-else-lacks_code-clause-fault g c =
    let program = g.W.Workflow.program in
    of_coded program c.args.name.now c.args.bytes.now c.args.events.items c.requires
    (ap (λ events. not (program.knows (workflow_of events))) (sym c.as_slice.ensures.value) ∙ sym c.lacks_code.ensures ∙ c.if-lacks_code.false)
