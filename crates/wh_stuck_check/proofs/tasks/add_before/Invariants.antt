use Rattle.std.proofs.Common.{◌≡◌, ◌++◌, drop, Some}
use Rattle.wh_possible_runs.specs.Configurations.{put_before}
use Rattle.wh_stuck_check.specs.Private.Seen.{lists_seen}
use Rattle.wh_stuck_check.proofs.tasks.add_before.Given as goal

-- the lists so far and those of the rest are all
abbrev pub invariant-loop-list : goal.invariant-loop-list
invariant-loop-list l =
    lists_seen l.found.items ++ put_before (Some l.one) (lists_seen (drop l.list-index l.lists))
    ≡ lists_seen l.initial.found.items ++ put_before (Some l.one) (lists_seen l.lists)
