use Rattle.std.proofs.Common.{ap, refl}
use Rattle.std.specs.Prelude.{Err, Ok, is_ok}
use Rattle.wh_diagnostics.proofs.Printed.{output_failed}
use Rattle.wh_file_commands.proofs.Steps.{page_ended}
use Rattle.wh_file_commands.proofs.Unshown.{unpaged_shown, unwritten_shown}
use Rattle.wh_file_commands.proofs.page.page.Goals as goal

-- the page is out
pub returns-in-Ok-clause-paged : goal.returns-in-Ok-clause-paged
returns-in-Ok-clause-paged g c =
    let own = c.in-Ok in
    page_ended g.W.Workflow.program c.args.only_recorded (c.args.name, c.args.bytes) c.as_str.result.now c.as_slice-seen.result.now
    c.args.console.now c.print_page.new.console c.flush_answer.new.console (Ok own.status) c.flush_answer.result own.status
    c.as_str.ensures.value c.as_slice-seen.ensures.value own.ensures.quiet own.ensures.paged c.flush_answer.ensures.quiet c.flush_answer.ensures.kept refl c.flush_answer.ensures.status

-- or it can't be put out
pub returns-in-Ok-clause-refused : goal.returns-in-Ok-clause-refused
returns-in-Ok-clause-refused g c =
    output_failed c.args.console.now c.print_page.new.console c.flush_answer.new.console c.flush_answer.result
    c.in-Ok.ensures.quiet c.flush_answer.ensures.quiet c.flush_answer.ensures.failure

-- and then its bytes have events
pub returns-in-Ok-clause-why : goal.returns-in-Ok-clause-why
returns-in-Ok-clause-why g c =
    unwritten_shown (c.args.name, c.args.bytes) c.as_slice-seen.result.now c.flush_answer.result c.as_slice-seen.ensures.value
    (ap is_ok c.in-Ok.ensures.paged.viewed.reads) c.flush_answer.ensures.failure

-- or there is no page
pub returns-in-Err-clause-refused : goal.returns-in-Err-clause-refused
returns-in-Err-clause-refused g c = record {
  quiet = c.in-Err.ensures.quiet;
  unwritten = λ other. c.in-Err.ensures.unwritten (λ is. other (c.failure_of.ensures.output.1 is));
}

-- and its bytes tell why
pub returns-in-Err-clause-why : goal.returns-in-Err-clause-why
returns-in-Err-clause-why g c =
    unpaged_shown (c.args.name, c.args.bytes) c.as_slice-seen.result.now c.in-Err.fault c.failure_of.result c.as_slice-seen.ensures.value
    (λ own is. c.in-Err.ensures.unviewed own (ap Err is)) (λ is. c.in-Err.ensures.output (ap Err is)) c.failure_of.ensures.why
