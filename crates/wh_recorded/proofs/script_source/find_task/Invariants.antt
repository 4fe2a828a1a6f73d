use Rattle.std.proofs.Common.{◌≡◌, drop}
use Rattle.wh_recorded.specs.Rounds.{first_with}
use Rattle.wh_recorded.proofs.script_source.find_task.Given as goal

-- no history passed so far has the task
abbrev pub invariant-loop-place : goal.invariant-loop-place
invariant-loop-place l = first_with l.place l.n (drop l.place l.histories) ≡ first_with l.from l.n (drop l.from l.histories)
