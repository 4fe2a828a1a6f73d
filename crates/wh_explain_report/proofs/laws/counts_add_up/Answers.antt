use Rattle.wh_explain_report.proofs.Adding.{counts_add_up}
use Rattle.wh_explain_report.proofs.laws.counts_add_up.Goals as goal

pub returns : goal.returns
returns c = counts_add_up
