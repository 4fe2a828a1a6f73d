use Rattle.wh_command_line.proofs.query.query.Goals as goal

pub returns : goal.returns
returns c =
    let query_type = c.with_argument-command.ensures _ _ c.needed_argument-query_type.ensures.rule c.needed_argument-query_type.ensures.local c.file_subcommand-command.ensures in
    let input = c.with_argument-command-2.ensures _ _ c.input_argument.ensures.rule c.input_argument.ensures.local query_type in
    c.with_argument.ensures _ _ c.flag_argument-json.ensures.rule c.flag_argument-json.ensures.local input
