use Rattle.std.proofs.Common.{◌≡◌}
use Rattle.wh_recorded.specs.Rounds.{first_tasks, failed_of}
use Rattle.wh_recorded.proofs.script_source.ScriptedHistory.failed_tasks.Given as goal

-- the failed tasks so far
abbrev pub invariant-loop-task : goal.invariant-loop-task
invariant-loop-task l = l.failed.items ≡ failed_of l.answers (first_tasks l.self l.task)
