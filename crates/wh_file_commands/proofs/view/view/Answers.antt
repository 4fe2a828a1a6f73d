use Rattle.std.proofs.Common.{ap, subst}
use Rattle.std.specs.Prelude.{is_ok}
use Rattle.wh_explain_report.specs.Explained.{view_as}
use Rattle.wh_diagnostics.proofs.Printed.{output_failed, text_printed, writer_failed}
use Rattle.wh_file_commands.proofs.Steps.{view_printed}
use Rattle.wh_file_commands.proofs.Unshown.{unviewed_shown, unwritten_shown}
use Rattle.wh_file_commands.specs.Private.Refusals.{IsUnviewed}
use Rattle.wh_file_commands.proofs.view.view.Goals as goal

-- what was printed is the text of the view, and it is out
pub returns-clause-viewed : goal.returns-clause-viewed
returns-clause-viewed g c =
    let own = c.in-Ok in
    let printed = text_printed (view_as c.args.selection c.args.format own.view) 0 c.args.console.now c.print_view-answer.new.console c.flush_answer.new.console c.print_view-answer.result c.flush_answer.result
    c.print_view-answer.ensures.printed c.print_view-answer.ensures.ends c.flush_answer.ensures.quiet c.flush_answer.ensures.kept c.flush_answer.ensures.status in
    view_printed c.args.selection c.args.format (c.args.name, c.args.bytes) c.as_slice-seen.result.now own.view c.args.console.now c.flush_answer.new.console c.flush_answer.result
    c.as_slice-seen.ensures.value own.ensures.ok printed

-- or it can't be put out
pub returns-clause-refused : goal.returns-clause-refused
returns-clause-refused g c =
    output_failed c.args.console.now c.print_view-answer.new.console c.flush_answer.new.console c.flush_answer.result
    c.print_view-answer.ensures.quiet c.flush_answer.ensures.quiet
    (writer_failed c.print_view-answer.result c.flush_answer.result c.print_view-answer.ensures.output c.flush_answer.ensures.failure)

-- and then its bytes have events
pub returns-clause-why : goal.returns-clause-why
returns-clause-why g c =
    unwritten_shown (c.args.name, c.args.bytes) c.as_slice-seen.result.now c.flush_answer.result c.as_slice-seen.ensures.value (ap is_ok c.in-Ok.ensures.ok.reads)
    (writer_failed c.print_view-answer.result c.flush_answer.result c.print_view-answer.ensures.output c.flush_answer.ensures.failure)

-- or there is no view
pub returns-in-Err-clause-why : goal.returns-in-Err-clause-why
returns-in-Err-clause-why g c =
    unviewed_shown (c.args.name, c.args.bytes) c.as_slice-seen.result.now c.in-Err.fault c.view_failure.result c.as_slice-seen.ensures.value c.in-Err.ensures.err
    (subst (λ name. IsUnviewed name c.as_slice-seen.result.now c.in-Err.fault c.view_failure.result) c.new.ensures c.view_failure.ensures)
