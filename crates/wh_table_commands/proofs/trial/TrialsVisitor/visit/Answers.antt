use Rattle.wh_diagnostics.proofs.Walked.{stopped_silently, told_silently}
use Rattle.wh_table_commands.specs.Trials.{IsTried}
use Rattle.wh_table_commands.proofs.trial.TrialsVisitor.visit.Goals as goal

-- nothing is written of a table
pub returns-clause-told : goal.returns-clause-told
returns-clause-told g c =
    told_silently (λ gives. IsTried gives c.args.self.now.scenario) g.R.InputReader.gives c.args.input c.args._console.now c.try_input.result c.try_input.ensures.tried

-- nor if it can't be read
pub returns-clause-refused : goal.returns-clause-refused
returns-clause-refused g c = stopped_silently c.args._console.now c.try_input.result
