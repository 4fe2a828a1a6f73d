use Rattle.wh_command_line.proofs.replay.replay.Goals as goal

pub returns : goal.returns
returns c =
    let json = c.with_argument-command.ensures _ _ c.flag_argument-json.ensures.rule c.flag_argument-json.ensures.local c.paths_subcommand-command.ensures in
    let required = c.with_argument-command-2.ensures _ _ c.require_files_argument.ensures.rule c.require_files_argument.ensures.local json in
    let strict = c.with_argument-command-3.ensures _ _ c.flag_argument-strict_values.ensures.rule c.flag_argument-strict_values.ensures.local required in
    c.with_argument.ensures _ _ c.progress_argument.ensures.rule c.progress_argument.ensures.local strict
