use Rattle.std.proofs.Common.{◌∙◌, []}
use Rattle.wh_replay.specs.Replays.{replay_after, replay_known, replay_tasks, start, workflow_of}
use Rattle.wh_replay.proofs.Resuming.{taken_replay}
use Rattle.wh_replay.proofs.Walking.{answers_err}
use Rattle.wh_replay.proofs.replaying.replay.Goals as goal

pub returns-in-Err-clause-replayed : goal.returns-in-Err-clause-replayed
returns-in-Err-clause-replayed g c =
    let program = g.W.Workflow.program in
    let events = c.args.events.items in
    let track = c.in_ok-track.track in
    let meter : _ = c.args.meter.now in
    answers_err c.in-Err.fault (replay_known (program.knows (workflow_of track)) (replay_after program [] [] track (start program (workflow_of track) meter))) (replay_tasks program events meter) _ _
    (λ fault e. taken_replay program events track meter c.in_ok-track.ensures ∙ e)
    c.in-Err.ensures.replayed
