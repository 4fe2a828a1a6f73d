use Rattle.std.proofs.Common.{◌∙◌, sym}
use Rattle.wh_service.proofs.Faults.{made_code, uncoded}
use Rattle.wh_service.proofs.file_faults.code_fault.Goals as goal

-- its workflow type is registered
pub returns-in_default : goal.returns-in_default
returns-in_default g c bytes has =
    record { named = tt; told = uncoded g.W.Workflow.program bytes c.args.track.now has ∙ (sym c.in_ok-unknown.ensures ∙ c.in_default.is) }

-- or it is not
pub returns : goal.returns
returns g c bytes has =
    let program = g.W.Workflow.program in
    made_code program c.args.name.now bytes c.in-Some.kind c.fault_of.result c.fault_of.ensures
    (uncoded program bytes c.args.track.now has ∙ (sym c.in_ok-unknown.ensures ∙ c.in-Some.is))
