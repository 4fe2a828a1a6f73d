use Rattle.std.proofs.Common.{◌≡◌, ◌-◌, ◌<◌, ◌≤◌, length, drop, slice_range}
use Rattle.wh_view_report.specs.Folding.{split_from, tasks_in}
use Rattle.wh_view_report.proofs.folding.end_of.Given as goal

-- the task goes on from the events so far
abbrev pub invariant-loop-end : goal.invariant-loop-end
invariant-loop-end l =
    (l.at < l.end) × (l.end ≤ length l.view.events)
    × (split_from l.view l.number (slice_range l.view.events l.at l.end) (drop l.end l.view.events) ≡ tasks_in l.view (drop l.at l.view.events))

abbrev pub decreases-loop-end : goal.decreases-loop-end
decreases-loop-end l = length l.view.events - l.end
