use Rattle.wh_diagnostics.proofs.ReadFailures.{input_unread}
use Rattle.wh_diagnostics.proofs.Batched.{stopped_if}
use Rattle.wh_service_command.proofs.Steps.{read_alone}
use Rattle.wh_service_command.proofs.serve.read_and_serve.Goals as goal

-- all was read, but not served
pub returns-in-Err-clause-stopped : goal.returns-in-Err-clause-stopped
returns-in-Err-clause-stopped g c =
    read_alone g.R.InputReader.gives g.W.Workflow.program c.args.inputs.items c.args.mode c.args.console.now c.read_batches.new.console c.in_ok-read.read
    c.in_ok-read.ensures.read c.in_ok-read.ensures.reported

-- all was read and served
pub returns-in-Ok-clause-served : goal.returns-in-Ok-clause-served
returns-in-Ok-clause-served g c = record {
  read = c.in_ok-read.read;
  found = c.in_ok-read.ensures.read;
  reported = c.in_ok-read.ensures.reported;
  service = c.in-Ok.ensures.served;
}

-- not all was read
pub returns-in_err-read-clause-stopped : goal.returns-in_err-read-clause-stopped
returns-in_err-read-clause-stopped g c = stopped_if c.from_residual.result c.in_err-read.ensures.stopped

-- and the failure tells why
pub returns-in_err-read-clause-why : goal.returns-in_err-read-clause-why
returns-in_err-read-clause-why g c = input_unread c.in_err-read.field-0.0 c.from_residual.result c.from_residual.ensures.1
