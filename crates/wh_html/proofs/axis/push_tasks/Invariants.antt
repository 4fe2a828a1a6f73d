use Rattle.std.proofs.Common.{◌≡◌, ◌++◌, take, map}
use Rattle.wh_html.proofs.axis.push_tasks.Given as goal

-- the times of the tasks so far have been added
abbrev pub invariant-loop-task : goal.invariant-loop-task
invariant-loop-task l = l.times.items ≡ l.initial.times.items ++ map (λ task. task.started.millis) (take l.task-index l.tasks)
