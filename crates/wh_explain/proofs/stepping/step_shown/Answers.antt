use Rattle.std.proofs.Common.{◌≡◌, ◌∙◌, Option, take, ap}
use Rattle.wh_match.specs.Issuing.{Issuing}
use Rattle.wh_workflow.specs.declared.job.Job.{Job}
use Rattle.wh_replay.specs.Views.{context_of, progress_of}
use Rattle.wh_explain.proofs.Traced.{shows_fault}
use Rattle.wh_explain.proofs.stepping.step_shown.Goals as goal

pub returns-in-Err-clause-shown : goal.returns-in-Err-clause-shown
returns-in-Err-clause-shown g c =
    let after = c.step.new.self in
    let stop = c.in-Err.field-0 in
    let given = c.in_ok-given.given.items in
    let copied : c.in_ok-shown.field-0.items ≡ given = c.in_ok-shown.ensures ∙ c.as_slice.ensures.value in
    let shown : c.truncate.new.self.items ≡ take stop.place given = c.truncate.ensures.items ∙ ap (take stop.place) copied in
    shows_fault (Option Job) stop.fault g.W.Workflow.program (context_of c.args.cut.now) (progress_of c.args.activation.now c.args.meter.now) c.args.job.now given c.truncate.new.self.items after.script.issued after.versions stop.place
    c.in_ok-given.ensures.given c.in_ok-given.ensures.versions (ap (λ (s : Issuing). s.issued) c.in_ok-given.ensures.script) shown c.in-Err.ensures.stops
