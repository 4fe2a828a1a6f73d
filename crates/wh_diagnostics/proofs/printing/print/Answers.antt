use Rattle.wh_diagnostics.proofs.Printed.{text_printed, writer_failed}
use Rattle.wh_diagnostics.proofs.printing.print.Goals as goal

-- the text was printed, and it is out
pub returns-clause-printed : goal.returns-clause-printed
returns-clause-printed g c =
    text_printed c.args.text.now 0 c.args.console.now c.print_text-answer.new.console c.flush_answer.new.console c.print_text-answer.result c.flush_answer.result
    c.print_text-answer.ensures.printed c.print_text-answer.ensures.ends c.flush_answer.ensures.quiet c.flush_answer.ensures.kept c.flush_answer.ensures.status

-- or it can't be put out
pub returns-clause-output : goal.returns-clause-output
returns-clause-output g c =
    writer_failed c.print_text-answer.result c.flush_answer.result c.print_text-answer.ensures.output c.flush_answer.ensures.failure
