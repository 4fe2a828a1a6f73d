use Rattle.std.proofs.Common.{◌≡◌, ◌≤◌, length, take}
use Rattle.wh_query.specs.Completed.{completed_part}
use Rattle.wh_query.proofs.completed.completed_len.Given as goal

abbrev pub invariant-loop-place : goal.invariant-loop-place
invariant-loop-place l =
    (l.end ≤ l.place)
    × (l.place ≤ length l.events)
    × (take l.end l.events ≡ completed_part (take l.place l.events))
