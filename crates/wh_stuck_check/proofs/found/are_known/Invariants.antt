use Rattle.std.proofs.Common.{◌≡◌, true, drop, map}
use Rattle.wh_possible_runs.specs.Shown.{has, each}
use Rattle.wh_stuck_check.specs.Private.Configs.{config_seen}
use Rattle.wh_stuck_check.proofs.found.are_known.Given as goal

-- all are known if the rest is
abbrev pub invariant-loop-one : goal.invariant-loop-one
invariant-loop-one l =
    each (has (map config_seen l.configs)) (map config_seen (drop l.one-index l.list)) ≡ true
    → each (has (map config_seen l.configs)) (map config_seen l.list) ≡ true
