use Rattle.std.proofs.Common.{◌≡◌, ◌∙◌, [], Some, None, ap, sym}
use Rattle.wh_workflow.proofs.Following.{no_versions}
use Rattle.wh_workflow.specs.declared.fault.WorkflowFault.{WorkflowFault}
use Rattle.wh_workflow.specs.Activations.{activate}
use Rattle.wh_replay.specs.Views.{context_of, progress, progress_of}
use Rattle.wh_explain.proofs.Tasks.{told_plain}
use Rattle.wh_explain.proofs.Traced.{ran_as}
use Rattle.wh_explain.proofs.stepping.run_jobs.Goals as goal

-- the activation runs to its end
pub returns-in-Ok-clause-steps : goal.returns-in-Ok-clause-steps
returns-in-Ok-clause-steps g c =
    let cut = c.args.cut.now in
    let before = c.args.activation.now in
    let after = c.run.new.self in
    let plain = ap no_versions c.requires.told ∙ told_plain cut.track.now cut.previous cut.number in
    let begin : progress_of before c.new-meter.result ≡ progress before.state before.versions [] 0
    = ap (λ issued. progress before.state before.versions issued c.new-meter.result) c.requires.unissued ∙ ap (λ meter. progress before.state before.versions [] meter) c.new-meter.ensures in
    let ran = ran_as g.W.Workflow.program g.met.W.Workflow.lawful (context_of cut) c.args.jobs.now before.state before.versions (progress_of before c.new-meter.result) (progress_of after c.run.new.meter) None plain begin c.in-Ok.ensures.activated in
    record { steps = ran.0; keeps = tt; longest = ran.1; leaves = ran.2 }

-- or up to a fault
pub returns-in-Err-Workflow-clause-steps : goal.returns-in-Err-Workflow-clause-steps
returns-in-Err-Workflow-clause-steps g c =
    let cut = c.args.cut.now in
    let before = c.args.activation.now in
    let after = c.run.new.self in
    let plain = ap no_versions c.requires.told ∙ told_plain cut.track.now cut.previous cut.number in
    let begin : progress_of before c.new-meter.result ≡ progress before.state before.versions [] 0
    = ap (λ issued. progress before.state before.versions issued c.new-meter.result) c.requires.unissued ∙ ap (λ meter. progress before.state before.versions [] meter) c.new-meter.ensures in
    let ran = ran_as g.W.Workflow.program g.met.W.Workflow.lawful (context_of cut) c.args.jobs.now before.state before.versions (progress_of before c.new-meter.result) (progress_of after c.run.new.meter) (Some c.in-Err-Workflow.fault) plain begin
    (rw c.in-Err-Workflow.field-0-is at c.in-Err-Workflow.ensures.activated) in
    record { steps = ran.0; keeps = tt; longest = ran.1; leaves = ran.2 }
