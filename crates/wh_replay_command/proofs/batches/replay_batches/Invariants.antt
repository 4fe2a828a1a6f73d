use Rattle.wh_diagnostics.specs.Readings.{IsReadAs}
use Rattle.wh_replay_command.specs.Batches.{faulty_of}
use Rattle.wh_diagnostics.proofs.Batched.{AreBatched}
use Rattle.wh_report.specs.Records.{AreRecordsOf}
use Rattle.wh_replay_command.proofs.batches.replay_batches.Given as goal

-- the batches so far were replayed, and reported
abbrev pub invariant-loop-batch : goal.invariant-loop-batch
invariant-loop-batch g l =
    AreBatched (AreRecordsOf l.options g.W.Workflow.program (IsReadAs g.R.InputReader.gives)) faulty_of l.mode l.fn.inputs.items l._batch l.records.items l.left.items l.fn.console l.console
