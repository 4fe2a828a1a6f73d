use Rattle.std.proofs.Common.{rules}
use Rattle.wh_recorded.proofs.sent_answers.enter.Goals as goal

pub returns-in_ok-insert-in-Workflow-Fail-clause-entered :
    goal.returns-in_ok-insert-in-Workflow-Fail-clause-entered
returns-in_ok-insert-in-Workflow-Fail-clause-entered c = search rules

pub returns-in_ok-insert-in-Workflow-Fail-clause-faults :
    goal.returns-in_ok-insert-in-Workflow-Fail-clause-faults
returns-in_ok-insert-in-Workflow-Fail-clause-faults c = search rules
