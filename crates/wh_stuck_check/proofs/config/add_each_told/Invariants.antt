use Rattle.std.proofs.Common.{◌≡◌, ◌++◌, drop, map}
use Rattle.wh_possible_runs.specs.Configurations.{stays, each_told}
use Rattle.wh_stuck_check.specs.Private.Seen.{name_seen, situation_seen}
use Rattle.wh_stuck_check.specs.Private.Configs.{config_seen}
use Rattle.wh_stuck_check.proofs.config.add_each_told.Given as goal

-- what is added so far and what the rest adds are all
abbrev pub invariant-loop-pattern : goal.invariant-loop-pattern
invariant-loop-pattern l =
    map config_seen l.found.items
    ++ each_told (stays (config_seen l.one)) (map name_seen l.rules.names.now) (drop l.pattern-index l.rules.patterns.now)
    (map (λ pattern. pattern.now) l.passed) (situation_seen l.one.situation)
    ≡ map config_seen l.initial.found.items
    ++ each_told (stays (config_seen l.one)) (map name_seen l.rules.names.now) l.rules.patterns.now
    (map (λ pattern. pattern.now) l.passed) (situation_seen l.one.situation)
