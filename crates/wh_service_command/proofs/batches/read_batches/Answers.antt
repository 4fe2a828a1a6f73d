use Rattle.std.proofs.Common.{◌≡◌, ◌∙◌, ◌<◌, ◌≤◌, ◌+◌, suc, length, take, drop, ap, subst, arith}
use Rattle.wh_console.specs.Consoles.{Reported}
use Rattle.wh_diagnostics.specs.Readings.{IsReadAs}
use Rattle.wh_diagnostics.proofs.Batched.{AreBatched, batch_left, batched_all, batched_more, batched_none, batched_stopped, batches_fit, stopped_if}
use Rattle.wh_diagnostics.specs.Batches.{batch_size, reports_after, reported_batches}
use Rattle.wh_diagnostics.specs.ProgressLines.{line_text, progress_of}
use Rattle.wh_service.proofs.FilesRead.{marks_both, read_both, read_each, read_none}
use Rattle.wh_service.specs.Readings.{HasRead}
use Rattle.wh_service_command.specs.Commands.{faulty_in}
use Rattle.wh_service_command.proofs.batches.read_batches.Goals as goal

-- none at first
pub loop-batch-init : goal.loop-batch-init
loop-batch-init g c =
    let program = g.W.Workflow.program in
    let Reads = IsReadAs g.R.InputReader.gives in
    batched_none (HasRead Reads program) faulty_in c.args.mode c.args.inputs.items c.new-read.result c.args.console.now
    (read_none Reads program c.new-read.result c.new-read.ensures.files c.new-read.ensures.faults)

-- a batch lies within what is left
pub split_off-requires : goal.split_off-requires
split_off-requires g c =
    let Are = HasRead (IsReadAs g.R.InputReader.gives) g.W.Workflow.program in
    let inputs = c.args.inputs.items in
    let many = c.len-total.ensures ∙ c.args.inputs.ok.0 in
    let size = c.batch_size-size.ensures.size ∙ ap batch_size many in
    let less = subst (λ n. c.loop-batch._batch < n) (c.reported_batches-batch-end.ensures.batches ∙ ap (reported_batches c.args.mode) many) c.loop-batch-test.true in
    let fits = batch_left Are faulty_in c.args.mode inputs c.loop-batch._batch
    c.loop-batch.read c.loop-batch.left.items c.args.console.now c.loop-batch.console c.loop-batch.invariant less in
    omega (arith, size, fits, c.loop-batch.left.ok.0)

-- one batch more was read, and reported
pub loop-batch-preserved : goal.loop-batch-preserved
loop-batch-preserved g c =
    let program = g.W.Workflow.program in
    let Reads = IsReadAs g.R.InputReader.gives in
    let Are = HasRead Reads program in
    let inputs = c.args.inputs.items in
    let old = c.loop-batch.read in
    let all = c.read_batch.new.read in
    let batch = c.split_off.new.self.items in
    let adds = c.in_ok-read_batch.ensures in
    let many = c.len-total.ensures ∙ c.args.inputs.ok.0 in
    let size = c.batch_size-size.ensures.size ∙ ap batch_size many in
    let less = subst (λ n. c.loop-batch._batch < n) (c.reported_batches-batch-end.ensures.batches ∙ ap (reported_batches c.args.mode) many) c.loop-batch-test.true in
    let progress = c.progress_of-progress.ensures ∙ ap (λ n. progress_of n (faulty_in all)) many in
    let next : suc c.loop-batch._batch ≡ c.loop-batch._batch + 1 = omega arith in
    subst (λ n. AreBatched Are faulty_in c.args.mode inputs n all c.in-Ok.later.items c.args.console.now c.report.new.self) next
    (batched_more Are faulty_in c.args.mode inputs c.loop-batch._batch
    old all (faulty_in adds.own) c.loop-batch.left.items batch c.in-Ok.later.items c.args.console.now c.loop-batch.console c.report.new.self
    (read_each Reads program) less c.loop-batch.invariant
    (c.in-Ok.ensures.items ∙ ap (λ n. take n c.loop-batch.left.items) size)
    (c.in-Ok.ensures.tail ∙ ap (λ n. drop n c.loop-batch.left.items) size)
    (λ front are. read_both Reads program front batch old all are adds)
    (marks_both Reads program batch old all adds)
    (subst (λ own. Reported c.loop-batch.console c.report.new.self (line_text c.args.mode own)) progress c.report.ensures))

-- the last batch was read
pub returns-clause-read : goal.returns-clause-read
returns-clause-read g c =
    let program = g.W.Workflow.program in
    let Reads = IsReadAs g.R.InputReader.gives in
    let inputs = c.args.inputs.items in
    let old = c.loop-batch.read in
    let all = c.read_batch-2.new.read in
    let left = c.loop-batch.left.items in
    let adds = c.in_ok-read_batch-2.ensures in
    let many = c.len-total.ensures ∙ c.args.inputs.ok.0 in
    let few = subst (λ n. c.loop-batch._batch ≤ n) (c.reported_batches-batch-end.ensures.batches ∙ ap (reported_batches c.args.mode) many) c.loop-batch.auto._batch-end in
    (batched_all (HasRead Reads program) faulty_in c.args.mode inputs c.loop-batch._batch
    old all (faulty_in adds.own) left c.args.console.now c.loop-batch.console
    (read_each Reads program) (batches_fit c.args.mode (length inputs) c.loop-batch._batch few) c.loop-batch.invariant
    (λ front are. read_both Reads program front left old all are adds)
    (marks_both Reads program left old all adds)).0

-- and not reported
pub returns-clause-reported : goal.returns-clause-reported
returns-clause-reported g c =
    let program = g.W.Workflow.program in
    let Reads = IsReadAs g.R.InputReader.gives in
    let inputs = c.args.inputs.items in
    let old = c.loop-batch.read in
    let all = c.read_batch-2.new.read in
    let left = c.loop-batch.left.items in
    let adds = c.in_ok-read_batch-2.ensures in
    let many = c.len-total.ensures ∙ c.args.inputs.ok.0 in
    let end = c.reported_batches-batch-end.ensures.batches ∙ ap (reported_batches c.args.mode) many in
    let few = subst (λ n. c.loop-batch._batch ≤ n) end c.loop-batch.auto._batch-end in
    let gone : c.loop-batch._batch ≡ c.reported_batches-batch-end.result = omega (arith, c.loop-batch.auto._batch-end, c.loop-batch-test.false) in
    subst (λ n. Reported c.args.console.now c.loop-batch.console (reports_after c.args.mode (length inputs) (faulty_in all) n)) (gone ∙ end)
    (batched_all (HasRead Reads program) faulty_in c.args.mode inputs c.loop-batch._batch
    old all (faulty_in adds.own) left c.args.console.now c.loop-batch.console
    (read_each Reads program) (batches_fit c.args.mode (length inputs) c.loop-batch._batch few) c.loop-batch.invariant
    (λ front are. read_both Reads program front left old all are adds)
    (marks_both Reads program left old all adds)).1

-- it stopped after some batches
pub returns-in_err-read_batch-clause-stopped : goal.returns-in_err-read_batch-clause-stopped
returns-in_err-read_batch-clause-stopped g c =
    let inputs = c.args.inputs.items in
    let many = c.len-total.ensures ∙ c.args.inputs.ok.0 in
    let few = subst (λ n. c.loop-batch._batch ≤ n) (c.reported_batches-batch-end.ensures.batches ∙ ap (reported_batches c.args.mode) many) c.loop-batch.auto._batch-end in
    stopped_if c.from_residual.result
    (batched_stopped (HasRead (IsReadAs g.R.InputReader.gives) g.W.Workflow.program) faulty_in c.args.mode inputs c.loop-batch._batch
    c.loop-batch.read c.loop-batch.left.items c.args.console.now c.loop-batch.console few c.loop-batch.invariant)

-- it stopped after some batches
pub returns-in_err-read_batch-2-clause-stopped : goal.returns-in_err-read_batch-2-clause-stopped
returns-in_err-read_batch-2-clause-stopped g c =
    let inputs = c.args.inputs.items in
    let many = c.len-total.ensures ∙ c.args.inputs.ok.0 in
    let few = subst (λ n. c.loop-batch._batch ≤ n) (c.reported_batches-batch-end.ensures.batches ∙ ap (reported_batches c.args.mode) many) c.loop-batch.auto._batch-end in
    stopped_if c.from_residual-in_err-read_batch-2.result
    (batched_stopped (HasRead (IsReadAs g.R.InputReader.gives) g.W.Workflow.program) faulty_in c.args.mode inputs c.loop-batch._batch
    c.loop-batch.read c.loop-batch.left.items c.args.console.now c.loop-batch.console few c.loop-batch.invariant)

-- it stopped after some batches
pub returns-in_default-clause-stopped : goal.returns-in_default-clause-stopped
returns-in_default-clause-stopped g c =
    let inputs = c.args.inputs.items in
    let many = c.len-total.ensures ∙ c.args.inputs.ok.0 in
    let few = subst (λ n. c.loop-batch._batch ≤ n) (c.reported_batches-batch-end.ensures.batches ∙ ap (reported_batches c.args.mode) many) c.loop-batch.auto._batch-end in
    batched_stopped (HasRead (IsReadAs g.R.InputReader.gives) g.W.Workflow.program) faulty_in c.args.mode inputs c.loop-batch._batch
    c.loop-batch.read c.loop-batch.left.items c.args.console.now c.loop-batch.console few c.loop-batch.invariant
