use Rattle.wh_command_line.proofs.tables.check.Goals as goal

pub returns : goal.returns
returns c =
    let json = c.with_argument-command.ensures _ _ c.flag_argument-json.ensures.rule c.flag_argument-json.ensures.local c.paths_subcommand-command.ensures in
    c.with_argument.ensures _ _ c.flag_argument-html.ensures.rule c.flag_argument-html.ensures.local json
