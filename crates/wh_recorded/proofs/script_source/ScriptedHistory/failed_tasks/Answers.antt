use Rattle.std.proofs.Common.{rules}
use Rattle.wh_recorded.proofs.Faults.{failed_same, failed_push}
use Rattle.wh_recorded.proofs.script_source.ScriptedHistory.failed_tasks.Goals.{then-not-is_completed+in_ok-push, else-not-is_completed}
use Rattle.wh_recorded.proofs.script_source.ScriptedHistory.failed_tasks.Goals as goal

-- one more task stands in the list unless it is completed
pub loop-task-preserved : goal.loop-task-preserved
loop-task-preserved c =
    elim c.if-not-is_completed.branch [
      | then-not-is_completed+in_ok-push w ↦ search (rules, failed_push c.args.answers.now c.args.self.now c.loop-task.task)
      | else-not-is_completed w ↦ search (rules, failed_same c.args.answers.now c.args.self.now c.loop-task.task)
    ]
