use Rattle.wh_diagnostics.proofs.Counted as counted
use Rattle.wh_diagnostics.proofs.laws.reports_are_few.Goals as goal

pub returns : goal.returns
returns c = counted.reports_are_few
