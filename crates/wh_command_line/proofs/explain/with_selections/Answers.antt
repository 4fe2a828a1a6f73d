use Rattle.wh_command_line.proofs.explain.with_selections.Goals as goal

pub returns : goal.returns
returns c = λ app stands.
    let all = c.with_argument-command.ensures app _ c.flag_argument-all.ensures.rule c.flag_argument-all.ensures.local stands in
    let around = c.with_argument-command-2.ensures _ _ c.selection_argument.ensures.rule c.selection_argument.ensures.local all in
    c.with_argument.ensures _ _ c.selection_argument-2.ensures.rule c.selection_argument-2.ensures.local around
