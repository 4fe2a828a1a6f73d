use Rattle.std.proofs.Common.{rules}
use Rattle.wh_service.proofs.FileRows.{rows_push, failures_push}
use Rattle.wh_service.proofs.outcomes.rows_of.Goals as goal

-- what is reported of a file comes after what is reported of those before it
pub loop-file-preserved : goal.loop-file-preserved
loop-file-preserved c =
    let workers = c.args.workers.now in
    let rows = c.loop-file.rows.items in
    record {
      rows = search (rules, rows_push (λ worker. worker.source) workers c.loop-file.yielded c.in-Some.file rows c.row_of.result c.index-workers-place.result c.loop-file.invariant.rows);
      failures = search (rules, failures_push (λ worker. worker.source) workers c.loop-file.yielded c.in-Some.file rows c.loop-file.failures.items c.add_failures.new.failures.items c.index-workers-place.result c.loop-file.invariant.rows c.loop-file.invariant.failures);
    }
