use Rattle.std.proofs.Common.{Ok, subst, sym}
use Rattle.wh_explain.specs.Private.Findings.{IsFoundOf}
use Rattle.wh_explain.proofs.Judged.{all_ok, misplaced_found, placed_found}
use Rattle.wh_explain.proofs.findings.find_in_events.Goals as goal

pub returns-in-Ok : goal.returns-in-Ok
returns-in-Ok g c = all_ok c.find_in_track.result (λ own found. placed_found g.W.Workflow.program c.args.detail c.args.events.items (Ok c.in-Ok.track) own c.in-Ok.ensures found) c.find_in_track.ensures

pub returns-in-Err-Fault : goal.returns-in-Err-Fault
returns-in-Err-Fault g c =
    let made = rw c.in-Err-Fault.field-0-is at c.of_verdict.ensures in
    subst (IsFoundOf c.args.detail g.W.Workflow.program c.args.events.items) (sym made)
    (misplaced_found g.W.Workflow.program c.args.detail c.args.events.items c.in-Err-Fault.fault (rw c.in-Err-Fault.field-0-is at c.in-Err-Fault.ensures))
