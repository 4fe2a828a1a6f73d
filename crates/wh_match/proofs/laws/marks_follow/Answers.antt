use Rattle.wh_match.proofs.Marking.{keep_marks, calls_reduce}
use Rattle.wh_match.proofs.laws.marks_follow.Goals as goal

pub returns-clause-marks : goal.returns-clause-marks
returns-clause-marks c = keep_marks

pub returns-clause-sent : goal.returns-clause-sent
returns-clause-sent c = calls_reduce
