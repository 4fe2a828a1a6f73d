use Rattle.std.proofs.Common.{◌≡◌, ◌∙◌, ◌<◌, ◌≤◌, ◌+◌, [], suc, length, take, drop, ap, ap₂, rules, subst, sym, arith}
use Rattle.wh_console.specs.Consoles.{Reported}
use Rattle.wh_replay_command.specs.Batches.{faulty_of}
use Rattle.wh_diagnostics.specs.Readings.{IsReadAs}
use Rattle.wh_diagnostics.proofs.Batched.{AreBatched, batch_left, batched_all, batched_more, batched_none, batched_stopped, batches_fit, stopped_if}
use Rattle.wh_diagnostics.specs.Batches.{batch_size, reports_after, reported_batches}
use Rattle.wh_diagnostics.specs.ProgressLines.{line_text, progress_of}
use Rattle.wh_report.specs.Records.{AreRecordsOf}
use Rattle.wh_replay_command.proofs.Batched.{adds_after, as_many, marks_after, no_records}
use Rattle.wh_replay_command.proofs.batches.replay_batches.Goals as goal

-- none at first
pub loop-batch-init : goal.loop-batch-init
loop-batch-init g c =
    let program = g.W.Workflow.program in
    let Reads = IsReadAs g.R.InputReader.gives in
    let empty : c.new-records.result.items ≡ [] = search rules in
    subst (λ l. AreBatched (AreRecordsOf c.args.options program Reads) faulty_of c.args.mode c.args.inputs.items 0 l c.args.inputs.items c.args.console.now c.args.console.now) (sym empty)
    (batched_none (AreRecordsOf c.args.options program Reads) faulty_of c.args.mode c.args.inputs.items [] c.args.console.now (no_records c.args.options program Reads))

-- a batch lies within what is left
pub split_off-requires : goal.split_off-requires
split_off-requires g c =
    let Are = AreRecordsOf c.args.options g.W.Workflow.program (IsReadAs g.R.InputReader.gives) in
    let inputs = c.args.inputs.items in
    let many = c.len-total.ensures ∙ c.args.inputs.ok.0 in
    let size = c.batch_size-size.ensures.size ∙ ap batch_size many in
    let less = subst (λ n. c.loop-batch._batch < n) (c.reported_batches-batch-end.ensures.batches ∙ ap (reported_batches c.args.mode) many) c.loop-batch-test.true in
    let fits = batch_left Are faulty_of c.args.mode inputs c.loop-batch._batch
    c.loop-batch.records.items c.loop-batch.left.items c.args.console.now c.loop-batch.console c.loop-batch.invariant less in
    omega (arith, size, fits, c.loop-batch.left.ok.0)

-- one batch more was replayed, and reported
pub loop-batch-preserved : goal.loop-batch-preserved
loop-batch-preserved g c =
    let program = g.W.Workflow.program in
    let Reads = IsReadAs g.R.InputReader.gives in
    let Are = AreRecordsOf c.args.options program Reads in
    let inputs = c.args.inputs.items in
    let old = c.loop-batch.records.items in
    let all = c.replay_batch.new.records.items in
    let batch = c.split_off.new.self.items in
    let adds = c.in_ok-replay_batch.ensures in
    let many = c.len-total.ensures ∙ c.args.inputs.ok.0 in
    let size = c.batch_size-size.ensures.size ∙ ap batch_size many in
    let less = subst (λ n. c.loop-batch._batch < n) (c.reported_batches-batch-end.ensures.batches ∙ ap (reported_batches c.args.mode) many) c.loop-batch-test.true in
    let progress = c.progress_of-progress.ensures ∙ ap₂ (λ n records. progress_of n (faulty_of records)) many c.as_slice.ensures.value in
    let next : suc c.loop-batch._batch ≡ c.loop-batch._batch + 1 = omega arith in
    subst (λ n. AreBatched Are faulty_of c.args.mode inputs n all c.in-Ok.later.items c.args.console.now c.report.new.self) next
    (batched_more Are faulty_of c.args.mode inputs c.loop-batch._batch
    old all (faulty_of adds.own) c.loop-batch.left.items batch c.in-Ok.later.items c.args.console.now c.loop-batch.console c.report.new.self
    (as_many c.args.options program Reads) less c.loop-batch.invariant
    (c.in-Ok.ensures.items ∙ ap (λ n. take n c.loop-batch.left.items) size)
    (c.in-Ok.ensures.tail ∙ ap (λ n. drop n c.loop-batch.left.items) size)
    (λ front are. adds_after c.args.options program Reads front batch old all adds are)
    (marks_after c.args.options program Reads batch old all adds)
    (subst (λ own. Reported c.loop-batch.console c.report.new.self (line_text c.args.mode own)) progress c.report.ensures))

-- the last batch was replayed
pub returns-clause-found : goal.returns-clause-found
returns-clause-found g c =
    let program = g.W.Workflow.program in
    let Reads = IsReadAs g.R.InputReader.gives in
    let inputs = c.args.inputs.items in
    let old = c.loop-batch.records.items in
    let all = c.replay_batch-2.new.records.items in
    let left = c.loop-batch.left.items in
    let adds = c.in_ok-replay_batch-2.ensures in
    let many = c.len-total.ensures ∙ c.args.inputs.ok.0 in
    let few = subst (λ n. c.loop-batch._batch ≤ n) (c.reported_batches-batch-end.ensures.batches ∙ ap (reported_batches c.args.mode) many) c.loop-batch.auto._batch-end in
    (batched_all (AreRecordsOf c.args.options program Reads) faulty_of c.args.mode inputs c.loop-batch._batch
    old all (faulty_of adds.own) left c.args.console.now c.loop-batch.console
    (as_many c.args.options program Reads) (batches_fit c.args.mode (length inputs) c.loop-batch._batch few) c.loop-batch.invariant
    (λ front are. adds_after c.args.options program Reads front left old all adds are)
    (marks_after c.args.options program Reads left old all adds)).0

-- and not reported
pub returns-clause-told : goal.returns-clause-told
returns-clause-told g c =
    let program = g.W.Workflow.program in
    let Reads = IsReadAs g.R.InputReader.gives in
    let inputs = c.args.inputs.items in
    let old = c.loop-batch.records.items in
    let all = c.replay_batch-2.new.records.items in
    let left = c.loop-batch.left.items in
    let adds = c.in_ok-replay_batch-2.ensures in
    let many = c.len-total.ensures ∙ c.args.inputs.ok.0 in
    let end = c.reported_batches-batch-end.ensures.batches ∙ ap (reported_batches c.args.mode) many in
    let few = subst (λ n. c.loop-batch._batch ≤ n) end c.loop-batch.auto._batch-end in
    let gone : c.loop-batch._batch ≡ c.reported_batches-batch-end.result = omega (arith, c.loop-batch.auto._batch-end, c.loop-batch-test.false) in
    subst (λ n. Reported c.args.console.now c.loop-batch.console (reports_after c.args.mode (length inputs) (faulty_of all) n)) (gone ∙ end)
    (batched_all (AreRecordsOf c.args.options program Reads) faulty_of c.args.mode inputs c.loop-batch._batch
    old all (faulty_of adds.own) left c.args.console.now c.loop-batch.console
    (as_many c.args.options program Reads) (batches_fit c.args.mode (length inputs) c.loop-batch._batch few) c.loop-batch.invariant
    (λ front are. adds_after c.args.options program Reads front left old all adds are)
    (marks_after c.args.options program Reads left old all adds)).1

-- it stopped after some batches
pub returns-in_err-replay_batch-clause-stopped : goal.returns-in_err-replay_batch-clause-stopped
returns-in_err-replay_batch-clause-stopped g c =
    let inputs = c.args.inputs.items in
    let many = c.len-total.ensures ∙ c.args.inputs.ok.0 in
    let few = subst (λ n. c.loop-batch._batch ≤ n) (c.reported_batches-batch-end.ensures.batches ∙ ap (reported_batches c.args.mode) many) c.loop-batch.auto._batch-end in
    stopped_if c.from_residual.result
    (batched_stopped (AreRecordsOf c.args.options g.W.Workflow.program (IsReadAs g.R.InputReader.gives)) faulty_of c.args.mode inputs c.loop-batch._batch
    c.loop-batch.records.items c.loop-batch.left.items c.args.console.now c.loop-batch.console few c.loop-batch.invariant)

-- it stopped after some batches
pub returns-in_err-replay_batch-2-clause-stopped : goal.returns-in_err-replay_batch-2-clause-stopped
returns-in_err-replay_batch-2-clause-stopped g c =
    let inputs = c.args.inputs.items in
    let many = c.len-total.ensures ∙ c.args.inputs.ok.0 in
    let few = subst (λ n. c.loop-batch._batch ≤ n) (c.reported_batches-batch-end.ensures.batches ∙ ap (reported_batches c.args.mode) many) c.loop-batch.auto._batch-end in
    stopped_if c.from_residual-in_err-replay_batch-2.result
    (batched_stopped (AreRecordsOf c.args.options g.W.Workflow.program (IsReadAs g.R.InputReader.gives)) faulty_of c.args.mode inputs c.loop-batch._batch
    c.loop-batch.records.items c.loop-batch.left.items c.args.console.now c.loop-batch.console few c.loop-batch.invariant)

-- it stopped after some batches
pub returns-in_default-clause-stopped : goal.returns-in_default-clause-stopped
returns-in_default-clause-stopped g c =
    let inputs = c.args.inputs.items in
    let many = c.len-total.ensures ∙ c.args.inputs.ok.0 in
    let few = subst (λ n. c.loop-batch._batch ≤ n) (c.reported_batches-batch-end.ensures.batches ∙ ap (reported_batches c.args.mode) many) c.loop-batch.auto._batch-end in
    batched_stopped (AreRecordsOf c.args.options g.W.Workflow.program (IsReadAs g.R.InputReader.gives)) faulty_of c.args.mode inputs c.loop-batch._batch
    c.loop-batch.records.items c.loop-batch.left.items c.args.console.now c.loop-batch.console few c.loop-batch.invariant
