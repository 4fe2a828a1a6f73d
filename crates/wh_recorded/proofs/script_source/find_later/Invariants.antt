use Rattle.std.proofs.Common.{◌≡◌, ◌+◌, drop}
use Rattle.wh_recorded.specs.Rounds.{first_with}
use Rattle.wh_recorded.proofs.script_source.find_later.Given as goal

-- no history passed so far has a task after it
abbrev pub invariant-loop-place : goal.invariant-loop-place
invariant-loop-place l = first_with l.place (l.n + 1) (drop l.place l.histories) ≡ first_with 0 (l.n + 1) l.histories
