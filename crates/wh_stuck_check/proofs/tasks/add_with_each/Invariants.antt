use Rattle.std.proofs.Common.{◌≡◌, ◌++◌, drop, map}
use Rattle.wh_possible_runs.specs.Configurations.{with_each}
use Rattle.wh_stuck_check.specs.Private.Seen.{lists_seen}
use Rattle.wh_stuck_check.specs.Private.Configs.{config_seen}
use Rattle.wh_stuck_check.proofs.tasks.add_with_each.Given as goal

-- the configurations so far and those of the rest are all
abbrev pub invariant-loop-list : goal.invariant-loop-list
invariant-loop-list l =
    map config_seen l.found.items ++ with_each (config_seen l.one) (lists_seen (drop l.list-index l.lists))
    ≡ map config_seen l.initial.found.items ++ with_each (config_seen l.one) (lists_seen l.lists)
