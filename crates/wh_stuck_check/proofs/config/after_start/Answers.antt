use Rattle.std.proofs.Common.{[], ◌∷◌, map, ap, ◌∙◌}
use Rattle.wh_table_lines.specs.Lines.{line_seen}
use Rattle.wh_possible_runs.specs.Configurations.{stays, led}
use Rattle.wh_stuck_check.specs.Private.Seen.{name_seen}
use Rattle.wh_stuck_check.specs.Private.Configs.{config_seen}
use Rattle.wh_stuck_check.proofs.Starting.{starts_some, starts_none}
use Rattle.wh_stuck_check.proofs.config.after_start.Goals as goal

pub returns-in-Some : goal.returns-in-Some
returns-in-Some c =
    ap (λ next. next ∷ []) (c.lead.ensures
    ∙ ap (λ now. led (map name_seen c.args.rules.now.names.now) c.args.rules.now.tops (line_seen c.in-Some.line.now) (config_seen c.args.one.now) now)
    c.in_ok-now.ensures)
    ∙ starts_some (map name_seen c.args.rules.now.names.now) c.args.rules.now.tops (config_seen c.args.one.now)
    (map line_seen c.args.rules.now.lines.now) (line_seen c.in-Some.line.now) c.in-Some.ensures

pub returns-in-None : goal.returns-in-None
returns-in-None c =
    ap (λ next. next ∷ []) (c.stay.ensures ∙ ap (λ now. stays (config_seen c.args.one.now) now) c.in_ok-now.ensures)
    ∙ starts_none (map name_seen c.args.rules.now.names.now) c.args.rules.now.tops (config_seen c.args.one.now)
    (map line_seen c.args.rules.now.lines.now) c.in-None.ensures
