use Rattle.std.proofs.Common.{◌≡◌, ◌++◌, drop, map}
use Rattle.wh_possible_runs.specs.Situations.{none_open}
use Rattle.wh_stuck_check.specs.Private.Seen.{name_seen}
use Rattle.wh_stuck_check.proofs.situation.none_open.Given as goal

-- the things so far and those of the rest are all
abbrev pub invariant-loop-name : goal.invariant-loop-name
invariant-loop-name l =
    l.things.items ++ none_open (map name_seen (drop l._name-index l.names)) ≡ none_open (map name_seen l.names)
