use Rattle.std.proofs.Common.{◌≡◌, ◌++◌, [], ◌∷◌, drop, map}
use Rattle.wh_rows.specs.declared.row.JobPattern.TheVariants as patterns
use Rattle.wh_table_lines.specs.Lines.{line_seen}
use Rattle.wh_possible_runs.specs.Configurations.{leads}
use Rattle.wh_stuck_check.specs.Private.Seen.{name_seen}
use Rattle.wh_stuck_check.specs.Private.Configs.{config_seen}
use Rattle.wh_stuck_check.proofs.config.add_leads.Given as goal

-- what is added so far and what the rest adds are all
abbrev pub invariant-loop-line : goal.invariant-loop-line
invariant-loop-line l =
    map config_seen l.found.items
    ++ leads (map name_seen l.rules.names.now) l.rules.tops (map line_seen (drop l.line-index l.rules.lines.now))
    (map (λ pattern. pattern.now) l.passed.items) (config_seen l.one)
    ≡ map config_seen l.initial.found.items
    ++ leads (map name_seen l.rules.names.now) l.rules.tops (map line_seen l.rules.lines.now) (patterns.Start ∷ []) (config_seen l.one)
