use Rattle.wh_diagnostics.proofs.Walked.{unended, walked}
use Rattle.wh_diagnostics.proofs.walks.walk.Goals as goal

-- all inputs were told, and the command ended
pub returns-clause-walked : goal.returns-clause-walked
returns-clause-walked g c =
    walked (g.V.Visitor.visits c.args.visitor.now) g.R.InputReader.gives c.args.listed.inputs.items c.args.listed.left_out c.lacks_files-lacks.result c.in_ok-all.all.items
    c.args.console.now c.visit_all.new.console c.finish.new.console c.finish.result c.lacks_files-lacks.ensures.lacks c.in_ok-all.ensures.told c.finish.ensures.ended

-- or it did not
pub returns-clause-stopped : goal.returns-clause-stopped
returns-clause-stopped g c =
    unended (g.V.Visitor.visits c.args.visitor.now) g.R.InputReader.gives c.args.listed.inputs.items c.in_ok-all.all.items
    c.args.console.now c.visit_all.new.console c.finish.new.console c.finish.result c.in_ok-all.ensures.told c.finish.ensures.refused c.finish.ensures.why
