use Rattle.wh_command_line.proofs.command_line.file_subcommand.Goals as goal

pub returns : goal.returns
returns c =
    c.with_argument.ensures _ _ c.needed_argument-file.ensures.rule c.needed_argument-file.ensures.local
    (c.subcommand.ensures.app, c.subcommand.ensures.local)
