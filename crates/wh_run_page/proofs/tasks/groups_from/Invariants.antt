use Rattle.std.proofs.Common.{◌≡◌, ◌+◌, ◌≤◌, ◌++◌, drop}
use Rattle.wh_run_page.specs.Tasks.{groups_from}
use Rattle.wh_run_page.proofs.tasks.groups_from.Given as goal

-- the groups so far and those of the rest are those of all; a group ends no later than its events
abbrev pub invariant-loop-number : goal.invariant-loop-number
invariant-loop-number l =
    (l.groups.items ++ groups_from l.group (drop l.number-index l.numbers) ≡ groups_from l.fn.first l.numbers)
    × (l.group.first + l.group.count ≤ l.fn.first.first + l.fn.first.count + l.number-index)
