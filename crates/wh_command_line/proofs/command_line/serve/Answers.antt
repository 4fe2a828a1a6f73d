use Rattle.wh_command_line.proofs.command_line.serve.Goals as goal

pub returns : goal.returns
returns c =
    let folder = c.with_argument-command.ensures _ _ c.folder_argument.ensures.rule c.folder_argument.ensures.local
    (c.subcommand-command.ensures.app, c.subcommand-command.ensures.local) in
    let workers = c.with_number-command.ensures _ folder in
    let sizes = c.with_sizes-command.ensures _ workers in
    let required = c.with_argument-command-2.ensures _ _ c.require_files_argument.ensures.rule c.require_files_argument.ensures.local sizes in
    c.with_argument.ensures _ _ c.progress_argument.ensures.rule c.progress_argument.ensures.local required
