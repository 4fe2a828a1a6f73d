use Rattle.std.proofs.Common.{[], ◌∷◌, ap}
use Rattle.std.specs.Prelude.{Err, Ok}
use Rattle.wh_diagnostics.proofs.Printed.{fault_flushed, output_failed, text_printed}
use Rattle.wh_html.specs.Html.{bytes}
use Rattle.wh_table_check.specs.Checks.{status_of}
use Rattle.wh_table_commands.proofs.Steps.{table_drawn}
use Rattle.wh_table_picture.specs.Pages.{page_html}
use Rattle.wh_table_commands.proofs.picture.draw.Goals as goal

-- the page is out
pub returns-clause-drawn : goal.returns-clause-drawn
returns-clause-drawn g c =
    let own = c.in-Ok in
    let printed = text_printed (bytes (page_html own.drawing)) (status_of (own.drawing.checked ∷ [])) c.args.console.now c.print_picture.new.console c.flush_answer-2.new.console (Ok c.picture_status.result) c.flush_answer-2.result
    own.ensures.printed c.picture_status.ensures c.flush_answer-2.ensures.quiet c.flush_answer-2.ensures.kept c.flush_answer-2.ensures.status in
    table_drawn c.args.file c.table_of-table.result own.drawing c.args.console.now c.flush_answer-2.new.console c.flush_answer-2.result
    c.table_of-table.ensures own.ensures.drawn printed

-- or it can't be put out
pub returns-clause-refused : goal.returns-clause-refused
returns-clause-refused g c =
    output_failed c.args.console.now c.print_picture.new.console c.flush_answer-2.new.console c.flush_answer-2.result
    c.in-Ok.ensures.quiet c.flush_answer-2.ensures.quiet c.flush_answer-2.ensures.failure

-- or there is no page
pub returns-in-Err-clause-refused : goal.returns-in-Err-clause-refused
returns-in-Err-clause-refused g c =
    fault_flushed c.args.console.now c.print_picture.new.console c.flush_answer.new.console c.in-Err.fault c.flush_answer.result
    c.in-Err.ensures.quiet (λ is. c.in-Err.ensures.unwritten (ap Err is)) c.flush_answer.ensures.quiet c.flush_answer.ensures.kept c.flush_answer.ensures.failure
