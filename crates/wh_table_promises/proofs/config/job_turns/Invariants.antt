use Rattle.std.proofs.Common.{◌≡◌, ◌++◌, drop, map}
use Rattle.std.specs.Prelude.{option_map}
use Rattle.wh_rows.specs.Deciding.{job_turns}
use Rattle.wh_table_lines.specs.Lines.{line_seen}
use Rattle.wh_table_promises.specs.Private.Seen.{turn_seen, standing_seen, config_seen, stand_by}
use Rattle.wh_table_promises.proofs.config.job_turns.Given as goal

-- what is added so far and what the rest adds are all
abbrev pub invariant-loop-turn : goal.invariant-loop-turn
invariant-loop-turn l =
    map config_seen l.found.items
    ++ job_turns (stand_by l.rules.tops (map turn_seen l.rules.turns.now) (option_map (λ line. line_seen line.now) l.line) (config_seen l.one))
    (map turn_seen (drop l.turn-index l.rules.turns.now)) (option_map (λ pattern. pattern.now) l.known)
    (map (λ pattern. pattern.now) l.passed) (standing_seen l.one.watch)
    ≡ map config_seen l.initial.found.items
    ++ job_turns (stand_by l.rules.tops (map turn_seen l.rules.turns.now) (option_map (λ line. line_seen line.now) l.line) (config_seen l.one))
    (map turn_seen l.rules.turns.now) (option_map (λ pattern. pattern.now) l.known)
    (map (λ pattern. pattern.now) l.passed) (standing_seen l.one.watch)
