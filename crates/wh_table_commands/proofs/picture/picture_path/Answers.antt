use Rattle.wh_diagnostics.proofs.CarriedOut.{carried_out, not_carried_out}
use Rattle.wh_diagnostics.specs.Failures.{IsWriteFailure}
use Rattle.wh_table_commands.specs.Pictures.{HasDrawn}
use Rattle.wh_table_commands.proofs.picture.picture_path.Goals as goal

-- the table is in the file at the path
pub returns-clause-drawn : goal.returns-clause-drawn
returns-clause-drawn g c =
    carried_out g.R.InputReader.gives HasDrawn c.args.path c.in_ok-file.file
    c.args.console.now c.draw.new.console c.draw.result c.in_ok-file.ensures.read c.draw.ensures.drawn

-- or its page can't be written
pub returns-clause-why : goal.returns-clause-why
returns-clause-why g c =
    not_carried_out g.R.InputReader.gives (λ file. IsWriteFailure) c.args.path c.in_ok-file.file c.draw.result
    c.in_ok-file.ensures.read c.draw.ensures.why
