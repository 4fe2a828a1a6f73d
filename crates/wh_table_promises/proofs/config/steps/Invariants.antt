use Rattle.std.proofs.Common.{◌≡◌, ◌++◌, drop, map}
use Rattle.wh_rows.specs.Deciding.{leads, steps}
use Rattle.wh_table_lines.specs.Lines.{line_seen}
use Rattle.wh_table_promises.specs.Private.Seen.{turn_seen, config_seen}
use Rattle.wh_table_promises.proofs.config.steps.Given as goal

-- what is added so far and what the rest adds are all
abbrev pub invariant-loop-line : goal.invariant-loop-line
invariant-loop-line l =
    map config_seen l.found.items
    ++ leads l.rules.tops (map turn_seen l.rules.turns.now) (map line_seen (drop l.line-index l.rules.lines.now))
    (map (λ pattern. pattern.now) l.passed.items) (config_seen l.one)
    ≡ map config_seen l.initial.found.items
    ++ steps l.rules.tops (map turn_seen l.rules.turns.now) (map line_seen l.rules.lines.now) (config_seen l.one)
