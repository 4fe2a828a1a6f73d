use Rattle.std.proofs.Common.{◌≡◌, ◌-◌, length, drop, map}
use Rattle.wh_possible_runs.specs.Configurations.{all_next_things}
use Rattle.wh_stuck_check.specs.Private.Seen.{name_seen, lists_seen}
use Rattle.wh_stuck_check.proofs.tasks.all_next_things.Given as goal

-- the lists are those of the last things
abbrev pub invariant-loop-back : goal.invariant-loop-back
invariant-loop-back l =
    lists_seen l.lists.items
    ≡ all_next_things (map name_seen (drop (length l.things - l.back) l.names)) (drop (length l.things - l.back) l.things)
