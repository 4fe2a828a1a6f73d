use Rattle.std.proofs.Common.{subst}
use Rattle.std.specs.Prelude.{IfOk}
use Rattle.wh_diagnostics.specs.Printing.{HasPrinted, status_with}
use Rattle.wh_table_check.specs.Checks.{status_of}
use Rattle.wh_table_check.specs.Texts.{report_as}
use Rattle.wh_table_commands.proofs.check.CheckVisitor.finish.Goals as goal

-- the report is that of what is kept
pub returns-clause-ended : goal.returns-clause-ended
returns-clause-ended g c =
    subst (λ l. IfOk c.report_checks.result (HasPrinted (report_as c.args.self.now.format l) (status_with c.args.lacks (status_of l)) c.args.console.now c.report_checks.new.console))
    c.as_slice.ensures.value c.report_checks.ensures.printed
