use Rattle.wh_diagnostics.proofs.CarriedOut.{file_read, file_unread}
use Rattle.wh_diagnostics.proofs.files.file_at.Goals as goal

-- the file is what the input at the path was read as
pub returns-clause-read : goal.returns-clause-read
returns-clause-read g c =
    file_read g.R.InputReader.gives c.args.path c.in_ok-input.input c.in_ok-file.file c.in_ok-input.ensures.found c.in_ok-file.ensures.read

-- or it can't be read
pub returns-in_err-file-clause-unread : goal.returns-in_err-file-clause-unread
returns-in_err-file-clause-unread g c =
    file_unread c.args.path c.in_ok-input.input c.in_err-file.field-0.0 c.from_residual-in_err-file.result c.in_ok-input.ensures.found
    c.from_residual-in_err-file.ensures.1
