use Rattle.std.proofs.Common.{◌≡◌, ◌++◌, drop}
use Rattle.wh_file_page.specs.Ways.{turns_of, left_by}
use Rattle.wh_file_page.proofs.following.follow_tasks.Given as goal

-- the rows so far and those of the rest are all
abbrev pub invariant-loop-task : goal.invariant-loop-task
invariant-loop-task l = record {
  turns : l.turns.items ++ turns_of l.state (drop l.task-index l.tasks) ≡ l.fn.turns.items ++ turns_of l.fn.state l.tasks;
  state : left_by l.state (drop l.task-index l.tasks) ≡ left_by l.fn.state l.tasks;
}
