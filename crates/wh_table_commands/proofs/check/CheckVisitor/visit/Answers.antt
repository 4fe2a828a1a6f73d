use Rattle.wh_diagnostics.proofs.Walked.{stopped_silently, told_silently}
use Rattle.wh_table_commands.specs.Checks.{IsChecked}
use Rattle.wh_table_commands.proofs.check.CheckVisitor.visit.Goals as goal

-- nothing is written of a table
pub returns-clause-told : goal.returns-clause-told
returns-clause-told g c =
    told_silently IsChecked g.R.InputReader.gives c.args.input c.args._console.now c.check_input.result c.check_input.ensures.checked

-- nor if it can't be read
pub returns-clause-refused : goal.returns-clause-refused
returns-clause-refused g c = stopped_silently c.args._console.now c.check_input.result
