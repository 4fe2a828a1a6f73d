use Rattle.std.proofs.Common.{◌≡◌, drop}
use Rattle.std.specs.List.{list_any}
use Rattle.wh_events.specs.Cuts.{is_task_completed}
use Rattle.wh_recorded.specs.Rounds.{is_last_recorded}
use Rattle.wh_recorded.proofs.script_source.ScriptedHistory.is_last_recorded.Given as goal

-- no task is completed between the last task and this place
abbrev pub invariant-loop-place : goal.invariant-loop-place
invariant-loop-place l = list_any is_task_completed (drop l.place l.self.events) ≡ is_last_recorded l.self
