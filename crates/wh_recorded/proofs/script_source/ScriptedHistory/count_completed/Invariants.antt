use Rattle.std.proofs.Common.{◌≡◌, ◌≤◌}
use Rattle.wh_recorded.specs.Rounds.{first_tasks, completed_of}
use Rattle.wh_recorded.proofs.script_source.ScriptedHistory.count_completed.Given as goal

abbrev pub invariant-loop-task : goal.invariant-loop-task
invariant-loop-task l = (l.completed ≡ completed_of l.answers (first_tasks l.self l.task)) × (l.completed ≤ l.task)
