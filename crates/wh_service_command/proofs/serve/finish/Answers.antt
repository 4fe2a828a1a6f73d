use Rattle.std.proofs.Common.{◌∙◌, ap, refl, subst}
use Rattle.std.specs.Prelude.{Ok}
use Rattle.wh_console.proofs.Printing.{quiet_twice}
use Rattle.wh_console.specs.Consoles.{Reported}
use Rattle.wh_diagnostics.specs.KnownTypes.{known_types_text}
use Rattle.wh_diagnostics.specs.Printing.{status_with}
use Rattle.wh_service_command.specs.Diagnostics.{faults_lack_code}
use Rattle.wh_service_command.proofs.Steps.{cut_by, end_kept, own_status}
use Rattle.wh_service_command.proofs.serve.finish.Goals as goal

-- the report was written, and the rest was reported after it
pub returns-clause-finished : goal.returns-clause-finished
returns-clause-finished g c =
    let old = c.args.console.now in
    let printed = c.print_service.new.console in
    let flushed = c.flush_answer.new.console in
    let end = c.in_ok-end.end in
    let lacking = c.faults_lack_code-lacking.ensures ∙ ap faults_lack_code c.as_slice.ensures.value in
    let own = own_status (Ok end.status) end.status c.in_ok-status.status refl c.in_ok-status.ensures.status in
    record {
      end = end;
      between = flushed;
      ended = c.report.new.self;
      quiet = quiet_twice old printed flushed c.print_service.ensures.quiet c.in_ok-status.ensures.quiet;
      written = end_kept c.args.served old.output printed.output flushed.output end c.in_ok-end.ensures.written c.in_ok-status.ensures.kept;
      reported = c.report.ensures;
      known = subst (λ l. Reported c.report.new.self c.report-2.new.self (known_types_text c.args.types.now l)) lacking c.report-2.ensures;
      ends = c.status_with.ensures.status ∙ ap (status_with c.args.lacks) own;
    }

-- or it can't be put out
pub returns-in_err-status-clause-cut : goal.returns-in_err-status-clause-cut
returns-in_err-status-clause-cut g c =
    cut_by c.from_residual-in_err-status.result c.in_err-status.field-0.0 c.args.console.now c.print_service.new.console c.flush_answer.new.console
    c.in_err-status.ensures.failure c.from_residual-in_err-status.ensures.1 c.print_service.ensures.quiet c.in_err-status.ensures.quiet
