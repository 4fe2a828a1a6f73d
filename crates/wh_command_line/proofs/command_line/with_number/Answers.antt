use Rattle.wh_command_line.proofs.command_line.with_number.Goals as goal

pub returns : goal.returns
returns c = λ app stands.
    c.with_argument.ensures app _ c.number_argument.ensures.rule c.number_argument.ensures.local stands
