use Rattle.std.proofs.Common.{◌∙◌, Ok, ap}
use Rattle.wh_tester.specs.Private.Verdicts.{faulted}
use Rattle.wh_tester.specs.UnknownTypes.{unknown_placed}
use Rattle.wh_tester.proofs.Judging.{fault_judged, good_judged}
use Rattle.wh_tester.proofs.verdicts.history_verdict.Goals as goal

-- the replay has no fault
pub returns-in-Ok-replay_history : goal.returns-in-Ok-replay_history
returns-in-Ok-replay_history g c = λ known.
    good_judged g.W.Workflow.program c.args.events.items c.in-Ok-replay_history.replayed_tasks c.in-Ok-replay_history.ensures.replayed_tasks

-- or it has one
pub returns-in-Err-Fault : goal.returns-in-Err-Fault
returns-in-Err-Fault g c = λ known.
    let program = g.W.Workflow.program in
    let begun = c.in-Ok.ensures ∙ ap (λ events. unknown_placed program (Ok events)) c.as_slice.ensures.value in
    c.fault_verdict.ensures ∙ ap (λ unknown. faulted unknown c.in-Err-Fault.fault) begun
    ∙ fault_judged program c.args.events.items c.in-Err-Fault.fault (rw c.in-Err-Fault.field-0-is at c.in-Err-Fault.ensures.replayed_tasks)
