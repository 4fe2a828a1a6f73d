use Rattle.wh_diagnostics.proofs.ReadFailures.{stopped_unread}
use Rattle.wh_table_commands.proofs.files.table_file.Goals as goal

-- the input can't be read
pub returns-in_err-file-clause-why : goal.returns-in_err-file-clause-why
returns-in_err-file-clause-why g c =
    stopped_unread c.args.input c.in_err-file.field-0.0 c.from_residual.result c.in_err-file.ensures.unread c.from_residual.ensures.1
