use Rattle.wh_messages.proofs.Answering.{results_differ, activity_failures_differ, failure_is_no_result}
use Rattle.wh_messages.proofs.laws.activity_answers_are_apart.Goals as goal

pub returns-clause-completed : goal.returns-clause-completed
returns-clause-completed c = results_differ

pub returns-clause-failed : goal.returns-clause-failed
returns-clause-failed c = activity_failures_differ

pub returns-clause-either : goal.returns-clause-either
returns-clause-either c = failure_is_no_result
