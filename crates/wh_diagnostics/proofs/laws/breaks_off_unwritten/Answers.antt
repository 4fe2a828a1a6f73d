use Rattle.wh_diagnostics.proofs.Walked.{broken_unwritten}
use Rattle.wh_diagnostics.proofs.laws.breaks_off_unwritten.Goals as goal

pub returns : goal.returns
returns g c = λ silent inputs old new failure h. broken_unwritten (g.V.Visitor.visits c.args.visitor.now) g.R.InputReader.gives inputs old new failure silent h
