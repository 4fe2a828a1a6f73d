use Rattle.std.proofs.Common.{◌∙◌, ◌≤◌, ◌<◌, length, slice_get, refl, sym, arith}
use Rattle.wh_view_report.proofs.Parts.{one_apart, one_more, one_within}
use Rattle.wh_view_report.proofs.folding.end_of.Goals as goal

pub loop-end-preserved : goal.loop-end-preserved
loop-end-preserved c =
    let view = c.args.view.now in
    let end = c.loop-end.end in
    let inv = c.loop-end.invariant in
    let up : c.args.at ≤ end = omega (arith, inv.0) in
    let here = sym c.belongs.ensures ∙ c.loop-end-test.true in (
      omega (arith, inv.0),
      one_within view c.task_of-number.result end (slice_get view.events end) refl here,
      one_more view c.task_of-number.result c.args.at end (slice_get view.events end) refl up here ∙ inv.2,
    )

pub returns-clause-task : goal.returns-clause-task
returns-clause-task c =
    let view = c.args.view.now in
    let end = c.loop-end.end in
    let inv = c.loop-end.invariant in
    let apart = sym c.belongs.ensures ∙ c.loop-end-test.false in
    sym inv.2 ∙ one_apart view c.task_of-number.result c.args.at end (slice_get view.events end) refl apart
