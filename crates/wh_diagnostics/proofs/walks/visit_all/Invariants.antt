use Rattle.wh_diagnostics.specs.Walks.{AreTold}
use Rattle.wh_diagnostics.proofs.walks.visit_all.Given as goal

-- the inputs so far were told
abbrev pub invariant-loop-input : goal.invariant-loop-input
invariant-loop-input g l = AreTold ((g.V.Visitor.visits l.visitor).tells g.R.InputReader.gives) l.yielded l.all.items l.fn.console l.console
