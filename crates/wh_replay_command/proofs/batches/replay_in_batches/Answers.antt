use Rattle.std.proofs.Common.{◌∙◌, ap}
use Rattle.wh_diagnostics.specs.Readings.{IsReadAs}
use Rattle.wh_diagnostics.specs.Batches.{reported_batches}
use Rattle.wh_replay_command.proofs.Batched.{stopped_in_all, told_in_all}
use Rattle.wh_replay_command.proofs.batches.replay_in_batches.Goals as goal

-- what was reported between batches, and the end of that
pub returns-clause-told : goal.returns-clause-told
returns-clause-told g c =
    told_in_all c.args.options g.W.Workflow.program (IsReadAs g.R.InputReader.gives) c.args.mode c.args.inputs.items c.reported_batches-lines.result
    c.args.console.now c.replay_batches-records.new.console c.report.new.self c.replay_batches-records.result
    (c.reported_batches-lines.ensures.batches ∙ ap (reported_batches c.args.mode) (c.len.ensures ∙ c.args.inputs.ok.0))
    c.replay_batches-records.ensures.found c.replay_batches-records.ensures.told c.report.ensures

-- so it is if the replay stopped
pub returns-clause-stopped : goal.returns-clause-stopped
returns-clause-stopped g c =
    stopped_in_all c.args.options g.W.Workflow.program (IsReadAs g.R.InputReader.gives) c.args.mode c.args.inputs.items c.reported_batches-lines.result
    c.args.console.now c.replay_batches-records.new.console c.report.new.self c.replay_batches-records.result
    (c.reported_batches-lines.ensures.batches ∙ ap (reported_batches c.args.mode) (c.len.ensures ∙ c.args.inputs.ok.0))
    c.replay_batches-records.ensures.stopped c.report.ensures
