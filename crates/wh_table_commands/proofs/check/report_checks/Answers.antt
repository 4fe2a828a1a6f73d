use Rattle.wh_diagnostics.proofs.Printed.{answer_refused, text_printed}
use Rattle.wh_diagnostics.specs.Printing.{status_with}
use Rattle.wh_table_check.specs.Checks.{status_of}
use Rattle.wh_table_check.specs.Texts.{report_as}
use Rattle.wh_table_commands.proofs.check.report_checks.Goals as goal

-- the report is out
pub returns-clause-printed : goal.returns-clause-printed
returns-clause-printed g c =
    let all = c.args.all.now in
    text_printed (report_as c.args.format all) (status_with c.args.lacks (status_of all)) c.args.console.now c.print_checks-answer.new.console c.flush_answer.new.console
    c.print_checks-answer.result c.flush_answer.result
    c.print_checks-answer.ensures.printed c.print_checks-answer.ensures.status c.flush_answer.ensures.quiet c.flush_answer.ensures.kept c.flush_answer.ensures.status

-- or it can't be put out
pub returns-clause-refused : goal.returns-clause-refused
returns-clause-refused g c =
    answer_refused c.args.console.now c.print_checks-answer.new.console c.flush_answer.new.console c.print_checks-answer.result c.flush_answer.result
    c.print_checks-answer.ensures.quiet c.print_checks-answer.ensures.unwritten c.flush_answer.ensures.quiet c.flush_answer.ensures.kept c.flush_answer.ensures.failure
