use Rattle.wh_explain_report.proofs.Printable.{names_are_printable}
use Rattle.wh_explain_report.proofs.laws.names_are_printable.Goals as goal

pub returns : goal.returns
returns c = names_are_printable
