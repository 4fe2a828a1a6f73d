use Rattle.std.proofs.Common.{◌≡◌, ◌++◌, take, drop}
use Rattle.wh_events.specs.Cuts.{until_completed}
use Rattle.wh_replay.proofs.cuts.next_completed.Given as goal

abbrev pub invariant-loop-place : goal.invariant-loop-place
invariant-loop-place l = drop l.start (take l.place l.events) ++ until_completed (drop l.place l.events) ≡ until_completed (drop l.start l.events)
