use Rattle.wh_command_line.proofs.work.with_limits.Goals as goal

pub returns : goal.returns
returns c = λ app stands.
    let workers = c.with_number-command.ensures app stands in
    let timeout = c.with_number-command-2.ensures _ workers in
    let attempts = c.with_number-command-3.ensures _ timeout in
    let policies = c.with_argument-command.ensures _ _ c.option_argument-policies.ensures.rule c.option_argument-policies.ensures.local attempts in
    c.with_number.ensures _ policies
