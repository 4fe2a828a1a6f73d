use Rattle.wh_diagnostics.proofs.Counted as counted
use Rattle.wh_diagnostics.proofs.laws.reports_end_early.Goals as goal

pub returns : goal.returns
returns c = counted.reports_end_early
