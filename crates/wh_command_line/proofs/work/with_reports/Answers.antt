use Rattle.wh_command_line.proofs.work.with_reports.Goals as goal

pub returns : goal.returns
returns c = λ app stands.
    let verbose = c.with_argument-command.ensures app _ c.flag_argument-verbose.ensures.rule c.flag_argument-verbose.ensures.local stands in
    let stats = c.with_argument-command-2.ensures _ _ c.option_argument-stats.ensures.rule c.option_argument-stats.ensures.local verbose in
    let json = c.with_argument-command-3.ensures _ _ c.flag_argument-json.ensures.rule c.flag_argument-json.ensures.local stats in
    c.with_argument.ensures _ _ c.option_argument-metrics.ensures.rule c.option_argument-metrics.ensures.local json
