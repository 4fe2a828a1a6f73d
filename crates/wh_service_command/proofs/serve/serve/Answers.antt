use Rattle.std.proofs.Common.{◌∙◌, ap}
use Rattle.std.specs.Prelude.{Ok}
use Rattle.wh_command_line.specs.Options.{sizes_of}
use Rattle.wh_diagnostics.specs.Batches.{reported_batches}
use Rattle.wh_service.specs.Services.{HostsBy}
use Rattle.wh_service_command.proofs.Steps.{cut_off_if, not_served, served_all_if}
use Rattle.wh_service_command.proofs.serve.serve.Goals as goal

-- what was served is written, and the rest is reported after it
pub returns-in-Ok-clause-served : goal.returns-in-Ok-clause-served
returns-in-Ok-clause-served g c =
    let hosts : HostsBy = λ config setups end. g.F.Fn.post c.args.host (config, (setups, tt)) (Ok end) in
    served_all_if g.R.InputReader.gives g.W.Workflow.program c.args.types.now hosts c.config-config.result (sizes_of c.args.options) c.args.inputs.items c.args.mode c.reported_batches-lines.result c.args.lacks
    c.args.console.now c.read_and_serve-served.new.console c.report.new.self c.finish.new.console c.in-Ok.served c.finish.result
    c.config-config.ensures.asked (c.reported_batches-lines.ensures.batches ∙ ap (reported_batches c.args.mode) (c.len.ensures ∙ c.args.inputs.ok.0))
    c.in-Ok.ensures.served c.report.ensures c.finish.ensures.finished

-- or it can't be written
pub returns-in-Ok-clause-stopped : goal.returns-in-Ok-clause-stopped
returns-in-Ok-clause-stopped g c =
    let hosts : HostsBy = λ config setups end. g.F.Fn.post c.args.host (config, (setups, tt)) (Ok end) in
    cut_off_if g.R.InputReader.gives g.W.Workflow.program hosts c.config-config.result c.args.inputs.items c.args.mode c.reported_batches-lines.result
    c.args.console.now c.read_and_serve-served.new.console c.report.new.self c.finish.new.console c.in-Ok.served c.finish.result
    (c.reported_batches-lines.ensures.batches ∙ ap (reported_batches c.args.mode) (c.len.ensures ∙ c.args.inputs.ok.0))
    c.in-Ok.ensures.served c.report.ensures c.finish.ensures.cut

-- or nothing was served
pub returns-in-Err-clause-stopped : goal.returns-in-Err-clause-stopped
returns-in-Err-clause-stopped g c =
    not_served g.R.InputReader.gives g.W.Workflow.program c.args.inputs.items c.args.mode c.reported_batches-lines.result
    c.args.console.now c.read_and_serve-served.new.console c.report.new.self c.in-Err.failure
    (c.reported_batches-lines.ensures.batches ∙ ap (reported_batches c.args.mode) (c.len.ensures ∙ c.args.inputs.ok.0))
    c.in-Err.ensures.stopped c.report.ensures c.in-Err.ensures.why
