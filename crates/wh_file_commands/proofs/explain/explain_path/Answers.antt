use Rattle.wh_diagnostics.proofs.CarriedOut.{carried_out, not_carried_out}
use Rattle.wh_diagnostics.specs.Failures.{IsWriteFailure}
use Rattle.wh_file_commands.specs.Explanations.{HasExplained}
use Rattle.wh_file_commands.proofs.explain.explain_path.Goals as goal

-- what is explained is the file at the path
pub returns-clause-explained : goal.returns-clause-explained
returns-clause-explained g c =
    carried_out g.R.InputReader.gives (HasExplained g.W.Workflow.program c.args.selection c.args.format) c.args.path (c.in_ok-name.name, c.in_ok-name.bytes)
    c.args.console.now c.explain.new.console c.explain.result c.in_ok-name.ensures.read c.explain.ensures.explained

-- or there is no full report of it
pub returns-clause-why : goal.returns-clause-why
returns-clause-why g c =
    not_carried_out g.R.InputReader.gives (λ file. IsWriteFailure) c.args.path (c.in_ok-name.name, c.in_ok-name.bytes) c.explain.result
    c.in_ok-name.ensures.read c.explain.ensures.why
