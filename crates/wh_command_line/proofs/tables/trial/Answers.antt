use Rattle.wh_command_line.proofs.tables.trial.Goals as goal

pub returns : goal.returns
returns c =
    c.with_argument.ensures _ _ c.flag_argument.ensures.rule c.flag_argument.ensures.local c.paths_subcommand-command.ensures
