use Rattle.std.proofs.Common.{◌∙◌, ap}
use Rattle.wh_activation.specs.Cutting.{jobs_at}
use Rattle.wh_workflow.specs.Activations.{Progress}
use Rattle.wh_replay.specs.Replays.{ReplayResult}
use Rattle.wh_replay.specs.Views.{context_of}
use Rattle.wh_replay.proofs.Responding.{sent_is}
use Rattle.wh_explain.specs.Numbers.{numbers_at}
use Rattle.wh_explain.proofs.Ends.{fault_taken, is_stepped, taken}
use Rattle.wh_explain.proofs.walk.take_task.Goals as goal

pub step_all-requires-clause-unissued : goal.step_all-requires-clause-unissued
step_all-requires-clause-unissued g c κs within = ap (λ (p : Progress _). p.script.issued) (c.new-activation.ensures.progress 0)

pub returns-in-Ok : goal.returns-in-Ok
returns-in-Ok g c =
    let program = g.W.Workflow.program in
    let cut = c.args.cut.now in
    let context = context_of cut in
    let told = jobs_at cut.track.now cut.previous cut.number in
    let numbers = numbers_at cut.track.now cut.previous cut.number in
    let before = c.args.before in
    let began = c.new-activation.result in
    let after = c.step_all.new.activation in
    let left = c.in_ok-state.field-0 in
    let ran = c.in_ok-steps.ensures.steps in
    let begins = ap (λ (p : Progress _). p.state) (c.new-activation.ensures.progress 0) in
    let knows = ap (λ (p : Progress _). p.script.settled) (c.new-activation.ensures.progress 0) in
    let sends = ap (λ (u : ReplayResult _). u.unsent) (c.in_ok-state.ensures 0) in
    let sent = c.sent_state.result in
    let stepped = is_stepped program c.args.detail cut.track.now context told numbers cut.number before.state before.versions c.in_ok-jobs.jobs.items began.state after.state sent.state began.versions after.versions sent.versions after.script.issued left.unsent.items ran.steps c.in_ok-steps.refused
    c.in_ok-jobs.ensures begins knows ran.longest ran.leaves (λ none. sent_is cut after.script left.unsent.items (c.in_ok-steps.ensures.script none) sends)
    (ap (λ (u : ReplayResult _). u.state) (c.sent_state.ensures 0) ∙ ap (λ (u : ReplayResult _). u.state) (c.in_ok-state.ensures 0))
    (ap (λ (u : ReplayResult _). u.settled) (c.sent_state.ensures 0) ∙ ap (λ (u : ReplayResult _). u.settled) (c.in_ok-state.ensures 0)) in
    taken program c.args.detail cut.track.now context told numbers cut.number before.state before.versions c.args.tasks.now.items c.end_task.new.tasks.items _ _ _ _ _ _ stepped (c.in-Ok.ensures ran.steps ran.keeps) stepped.leaves

pub returns-in-Err : goal.returns-in-Err
returns-in-Err g c =
    let program = g.W.Workflow.program in
    let cut = c.args.cut.now in
    let context = context_of cut in
    let told = jobs_at cut.track.now cut.previous cut.number in
    let numbers = numbers_at cut.track.now cut.previous cut.number in
    let before = c.args.before in
    let began = c.new-activation.result in
    let after = c.step_all.new.activation in
    let left = c.in_ok-state.field-0 in
    let ran = c.in_ok-steps.ensures.steps in
    let begins = ap (λ (p : Progress _). p.state) (c.new-activation.ensures.progress 0) in
    let knows = ap (λ (p : Progress _). p.script.settled) (c.new-activation.ensures.progress 0) in
    let sends = ap (λ (u : ReplayResult _). u.unsent) (c.in_ok-state.ensures 0) in
    let stepped = is_stepped program c.args.detail cut.track.now context told numbers cut.number before.state before.versions c.in_ok-jobs.jobs.items began.state after.state left.state began.versions after.versions left.versions after.script.issued left.unsent.items ran.steps c.in_ok-steps.refused
    c.in_ok-jobs.ensures begins knows ran.longest ran.leaves (λ none. sent_is cut after.script left.unsent.items (c.in_ok-steps.ensures.script none) sends)
    (ap (λ (u : ReplayResult _). u.state) (c.in_ok-state.ensures 0)) (ap (λ (u : ReplayResult _). u.settled) (c.in_ok-state.ensures 0)) in
    fault_taken program c.args.detail cut.track.now context told numbers cut.number before.state before.versions c.args.tasks.now.items c.end_task.new.tasks.items _ _ _ _ c.in-Err.fault stepped (c.in-Err.ensures ran.steps ran.keeps)
