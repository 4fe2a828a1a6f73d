use Rattle.wh_diagnostics.proofs.Printed.{text_printed, writer_failed}
use Rattle.wh_diagnostics.specs.Printing.{status_with}
use Rattle.wh_explain_report.specs.Overviews.{counts_as}
use Rattle.wh_file_commands.specs.Overviews.{overview_status}
use Rattle.wh_file_commands.proofs.overview.end_overview.Goals as goal

-- the numbers of the runs are out
pub returns-clause-printed : goal.returns-clause-printed
returns-clause-printed g c =
    let statuses = c.args.statuses.now in
    text_printed (counts_as c.args.format statuses) (status_with c.args.lacks (overview_status statuses)) c.args.console.now c.print_counts-answer.new.console c.flush_answer.new.console c.print_counts-answer.result c.flush_answer.result
    c.print_counts-answer.ensures.printed c.print_counts-answer.ensures.status c.flush_answer.ensures.quiet c.flush_answer.ensures.kept c.flush_answer.ensures.status

-- or they can't be put out
pub returns-clause-output : goal.returns-clause-output
returns-clause-output g c =
    writer_failed c.print_counts-answer.result c.flush_answer.result c.print_counts-answer.ensures.output c.flush_answer.ensures.failure
