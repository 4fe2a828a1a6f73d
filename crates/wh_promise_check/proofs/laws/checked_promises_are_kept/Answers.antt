use Rattle.wh_promise_check.proofs.Checked as checked
use Rattle.wh_promise_check.proofs.laws.checked_promises_are_kept.Goals as goal

pub returns : goal.returns
returns c = checked.checked_keep
