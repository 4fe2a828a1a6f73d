use Rattle.wh_command_line.proofs.work.work.Goals as goal

pub returns : goal.returns
returns c =
    let names = c.with_names-command.ensures _ (c.work_alone.ensures.app, c.work_alone.ensures.local) in
    let workers = c.with_number-command.ensures _ names in
    let sizes = c.with_sizes-command.ensures _ workers in
    let limits = c.with_limits-command.ensures _ sizes in
    c.with_reports.ensures _ limits
