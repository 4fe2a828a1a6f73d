use Rattle.std.proofs.Common.{ap, refl, subst}
use Rattle.std.specs.Prelude.{Err, Ok}
use Rattle.wh_console.specs.Consoles.{Reported}
use Rattle.wh_diagnostics.specs.KnownTypes.{known_types_text}
use Rattle.wh_diagnostics.proofs.Printed.{fault_flushed}
use Rattle.wh_file_commands.proofs.Steps.{query_ended}
use Rattle.wh_file_commands.proofs.query.query_file.Goals as goal

-- what came of the query is out, and the rest was reported after it
pub returns-clause-queried : goal.returns-clause-queried
returns-clause-queried g c =
    let own = c.in-Ok in
    query_ended g.W.Workflow.program g.W.Queryable.queries c.args.types.now c.args.file c.args.query.now c.args.format
    c.args.console.now c.print_query.new.console c.flush_answer-2.new.console c.report.new.self c.report-2.new.self own.queried (Ok c.status_of.result) c.status_of.result c.in-Ok-flush_answer.status
    own.ensures.queried own.ensures.printed c.in-Ok-flush_answer.ensures.quiet c.in-Ok-flush_answer.ensures.kept
    c.report.ensures (subst (λ lacking. Reported c.report.new.self c.report-2.new.self (known_types_text c.args.types.now lacking)) c.is_no_code-lacking.ensures c.report-2.ensures) c.status_of.ensures refl c.in-Ok-flush_answer.ensures.status

-- or there is nothing to write, or it can't be written
pub returns-in-Err-clause-refused : goal.returns-in-Err-clause-refused
returns-in-Err-clause-refused g c =
    fault_flushed c.args.console.now c.print_query.new.console c.flush_answer.new.console c.in-Err.fault c.flush_answer.result
    c.in-Err.ensures.quiet (λ is. c.in-Err.ensures.unwritten (ap Err is)) c.flush_answer.ensures.quiet c.flush_answer.ensures.kept c.flush_answer.ensures.failure
