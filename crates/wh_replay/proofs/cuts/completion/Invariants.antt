use Rattle.std.proofs.Common.{◌≡◌, drop}
use Rattle.wh_events.specs.Cuts.{is_recorded, after_completed}
use Rattle.wh_replay.proofs.cuts.completion.Given as goal

abbrev pub invariant-loop-place : goal.invariant-loop-place
invariant-loop-place l = (is_recorded (drop l.place l.events) ≡ is_recorded (drop l.start l.events)) × (after_completed (drop l.place l.events) ≡ after_completed (drop l.start l.events))
