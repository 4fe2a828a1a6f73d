use Rattle.std.proofs.Common.{◌≡◌, ◌++◌, drop}
use Rattle.order.specs.Inbox.{told}
use Rattle.order.proofs.inbox.history_of.Given as goal

-- with the tasks that are left it is the whole
abbrev pub invariant-loop-task : goal.invariant-loop-task
invariant-loop-task l = l.history.items ++ told l.key l.up_to (drop l.task-index l.tasks) ≡ told l.key l.up_to l.tasks
