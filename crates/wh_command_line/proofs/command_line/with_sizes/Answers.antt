use Rattle.wh_command_line.proofs.command_line.with_sizes.Goals as goal

pub returns : goal.returns
returns c = λ app stands.
    let cache = c.with_number-command.ensures app stands in
    let cache_events = c.with_number-command-2.ensures _ cache in
    c.with_number.ensures _ cache_events
