use Rattle.std.proofs.Common.{sym, subst}
use Rattle.std.specs.List.{AllZip}
use Rattle.wh_report.specs.Records.{IsRecordOf}
use Rattle.wh_report.proofs.Collected.{records_of_files, files_reported}
use Rattle.wh_report.proofs.commands.replay_command.Goals as goal

-- the records are those of the files
pub returns-clause-reported : goal.returns-clause-reported
returns-clause-reported g c =
    let program = g.W.Workflow.program in
    let files = c.args.files.items in
    files_reported c.args.options program files c.as_slice.result.now (g.O.Write.contents c.args.writer.now) (g.O.Write.contents c.report.new.writer) c.report.result
    (subst (λ l. AllZip (IsRecordOf c.args.options program) files l) (sym c.as_slice.ensures.value) (records_of_files c.args.options program files c.in-Ok.records.items c.in-Ok.ensures.records))
    c.report.ensures.written c.report.ensures.status
