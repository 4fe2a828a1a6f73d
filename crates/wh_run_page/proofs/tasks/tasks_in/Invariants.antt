use Rattle.std.proofs.Common.{◌≡◌, take, map}
use Rattle.wh_run_page.specs.Tasks.{task_at}
use Rattle.wh_run_page.proofs.tasks.tasks_in.Given as goal

-- the tasks of the groups so far
abbrev pub invariant-loop-group : goal.invariant-loop-group
invariant-loop-group l = l.all.items ≡ map (task_at l.view l.times l.fault) (take l.group-index l.groups)
