use Rattle.std.proofs.Common.{◌≡◌, ◌∙◌, ℕ, true, [], sym, ap}
use Rattle.wh_replay.specs.Replays.{replay_after, replay_known, start, workflow_of}
use Rattle.wh_replay.specs.Views.{replay_result_of}
use Rattle.wh_replay.proofs.Resuming.{answers_along}
use Rattle.wh_replay.proofs.replaying.replay_all.Goals as goal

pub returns-clause-replayed : goal.returns-clause-replayed
returns-clause-replayed g c =
    let program = g.W.Workflow.program in
    let track = c.args.track.now in
    let meter : ℕ = c.args.meter.now in
    let shown : c.workflow_of-kind.result.now ≡ workflow_of track = c.workflow_of-kind.ensures ∙ ap workflow_of c.events.ensures.events in
    let known : program.knows (workflow_of track) ≡ true = ap program.knows (sym shown) ∙ (sym c.handles.ensures ∙ c.if-not-handles.false) in
    let began : replay_result_of c.in_ok-first.first meter ≡ start program (workflow_of track) meter = c.in_ok-first.ensures meter ∙ ap (λ kind. start program kind meter) shown in
    answers_along c.replay_since.result _ _ _
    (ap (λ b. replay_known b (replay_after program [] [] track (start program (workflow_of track) meter))) known ∙ ap (replay_after program [] [] track) (sym began))
    c.replay_since.ensures.replayed
