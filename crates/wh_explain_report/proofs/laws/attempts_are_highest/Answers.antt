use Rattle.wh_explain_report.proofs.Highest.{attempts_are_highest}
use Rattle.wh_explain_report.proofs.laws.attempts_are_highest.Goals as goal

pub returns : goal.returns
returns c = attempts_are_highest
