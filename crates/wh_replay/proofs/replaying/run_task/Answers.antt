use Rattle.std.proofs.Common.{◌∙◌, sym, ap}
use Rattle.wh_workflow.specs.Activations.{activate}
use Rattle.wh_replay.specs.Replays.{begin_at, task_after}
use Rattle.wh_replay.specs.Views.{context_of, replay_result_of}
use Rattle.wh_replay.specs.Private.Views.{task_of}
use Rattle.wh_replay.proofs.Resuming.{answers_along}
use Rattle.wh_replay.proofs.replaying.run_task.Goals as goal

pub returns-in-Ok-clause-ran : goal.returns-in-Ok-clause-ran
returns-in-Ok-clause-ran g c =
    let program = g.W.Workflow.program in
    let cut = c.args.cut.now in
    let place = context_of cut in
    let before = replay_result_of c.args.before c.args.meter.now in
    let after = task_after cut.track.now place cut.number in
    answers_along c.step_task.result _ (task_of program cut before) _
    (ap (λ l. after (activate program place l (begin_at before))) (sym (c.as_slice.ensures.value ∙ c.in-Ok.ensures))
    ∙ ap (λ p. after (activate program place c.as_slice.result.now p)) (sym (c.new-activation.ensures.progress c.args.meter.now)))
    c.step_task.ensures.stepped
