use Rattle.std.proofs.Common.{subst}
use Rattle.std.specs.Prelude.{IfOk}
use Rattle.wh_diagnostics.specs.Printing.{HasPrinted, status_with}
use Rattle.wh_explain_report.specs.Overviews.{counts_as}
use Rattle.wh_file_commands.proofs.ItemLines.{output_refused, output_why}
use Rattle.wh_file_commands.specs.Overviews.{overview_status}
use Rattle.wh_file_commands.proofs.overview.OverviewVisitor.finish.Goals as goal

-- the numbers of the runs are out
pub returns-clause-ended : goal.returns-clause-ended
returns-clause-ended g c =
    subst (λ l. IfOk c.end_overview.result (HasPrinted (counts_as c.args.self.now.format l) (status_with c.args.lacks (overview_status l)) c.args.console.now c.end_overview.new.console))
    c.as_slice.ensures.value c.end_overview.ensures.printed

-- or they can't be put out
pub returns-clause-refused : goal.returns-clause-refused
returns-clause-refused g c =
    output_refused c.args.console.now c.end_overview.new.console c.end_overview.result c.end_overview.ensures.quiet c.end_overview.ensures.output

pub returns-clause-why : goal.returns-clause-why
returns-clause-why g c = output_why c.end_overview.result c.end_overview.ensures.output
