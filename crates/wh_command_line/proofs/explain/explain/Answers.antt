use Rattle.wh_command_line.proofs.explain.explain.Goals as goal

pub returns : goal.returns
returns c =
    let json = c.with_argument-command.ensures _ _ c.flag_argument-json.ensures.rule c.flag_argument-json.ensures.local c.paths_subcommand-command.ensures in
    let recorded = c.with_argument-command-2.ensures _ _ c.flag_argument-recorded.ensures.rule c.flag_argument-recorded.ensures.local json in
    let html = c.with_argument.ensures _ _ c.flag_argument-html.ensures.rule c.flag_argument-html.ensures.local recorded in
    c.with_selections.ensures _ html
