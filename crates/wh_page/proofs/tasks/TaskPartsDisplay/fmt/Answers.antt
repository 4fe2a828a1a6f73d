use Rattle.std.proofs.Common.{rules}
use Rattle.std.proofs.Output.{has_written_append, has_written_of_eq}
use Rattle.wh_page.specs.TaskTexts.{task_html}
use Rattle.wh_html.proofs.Each.{each_more}
use Rattle.wh_page.proofs.tasks.TaskPartsDisplay.fmt.Goals as goal

pub loop-task-preserved : goal.loop-task-preserved
loop-task-preserved g c = λ plain.
    has_written_of_eq _ _ _ _ _
    (each_more task_html c.args.self.now.0.now c.loop-task.task-index c.task-item.result c.loop-task-test.true c.task-item.is)
    (has_written_append _ _ _ _ _ _ (c.loop-task.invariant plain) (search rules))
