use Rattle.wh_diagnostics.proofs.Walked.{broken_quietly}
use Rattle.wh_diagnostics.proofs.laws.breaks_off_quietly.Goals as goal

pub returns : goal.returns
returns g c = λ inputs old new failure h. broken_quietly (g.V.Visitor.visits c.args.visitor.now) g.R.InputReader.gives inputs old new failure h
