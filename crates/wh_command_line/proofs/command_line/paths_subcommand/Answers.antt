use Rattle.wh_command_line.proofs.command_line.paths_subcommand.Goals as goal

pub returns : goal.returns
returns c =
    c.with_argument.ensures _ _ c.paths_argument-paths.ensures.rule c.paths_argument-paths.ensures.local
    (c.subcommand.ensures.app, c.subcommand.ensures.local)
