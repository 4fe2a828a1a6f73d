use Rattle.wh_diagnostics.specs.Readings.{IsReadAs}
use Rattle.wh_diagnostics.proofs.Batched.{AreBatched}
use Rattle.wh_service.specs.Readings.{HasRead}
use Rattle.wh_service_command.specs.Commands.{faulty_in}
use Rattle.wh_service_command.proofs.batches.read_batches.Given as goal

-- the batches so far were read, and reported
abbrev pub invariant-loop-batch : goal.invariant-loop-batch
invariant-loop-batch g l =
    AreBatched (HasRead (IsReadAs g.R.InputReader.gives) g.W.Workflow.program) faulty_in l.mode l.fn.inputs.items l._batch l.read l.left.items l.fn.console l.console
