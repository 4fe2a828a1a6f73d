use Rattle.wh_replay_command.proofs.Steps.{replayed_paths, stopped_at_paths}
use Rattle.wh_replay_command.proofs.replay.replay_paths.Goals as goal

-- the inputs are those of the paths
pub returns-clause-replayed : goal.returns-clause-replayed
returns-clause-replayed g c =
    let listed = c.in_ok-listed.listed in
    replayed_paths g.W.Workflow.program c.args.types.now c.args.first c.args.more.items c.args.options listed.left_out c.lacks_files-lacks.result c.progress_mode-mode.ensures.mode.0 c.progress_mode-mode.result listed.inputs.items
    c.args.console.now c.all_inputs.new.console c.replay.new.console
    c.replay.result c.in_ok-listed.ensures.listed c.lacks_files-lacks.ensures.lacks c.progress_mode-mode.ensures.mode.1 c.replay.ensures.replayed

-- or the replay stopped after they were listed
pub returns-clause-stopped : goal.returns-clause-stopped
returns-clause-stopped g c =
    let listed = c.in_ok-listed.listed in
    stopped_at_paths g.W.Workflow.program c.args.first c.args.more.items c.args.options listed.left_out c.progress_mode-mode.ensures.mode.0 c.progress_mode-mode.result listed.inputs.items
    c.args.console.now c.all_inputs.new.console c.replay.new.console
    c.replay.result c.in_ok-listed.ensures.listed c.progress_mode-mode.ensures.mode.1 c.replay.ensures.stopped
