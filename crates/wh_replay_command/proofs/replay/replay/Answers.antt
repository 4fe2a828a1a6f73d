use Rattle.std.proofs.Common.{◌∙◌, ap, subst}
use Rattle.std.specs.List.{list_any}
use Rattle.wh_console.specs.Consoles.{Reported}
use Rattle.wh_diagnostics.specs.KnownTypes.{known_types_text}
use Rattle.wh_diagnostics.proofs.Unreported.{lacks_for_output, lacks_unread}
use Rattle.wh_diagnostics.specs.Readings.{IsReadAs}
use Rattle.wh_replay_command.proofs.Batched.{as_many}
use Rattle.wh_replay_command.specs.Batches.{faulty_of}
use Rattle.wh_report.specs.Records.{AreRecordsOf}
use Rattle.wh_tester.specs.UnknownTypes.{is_no_code}
use Rattle.wh_replay_command.proofs.replay.replay.Goals as goal

-- progress was told, then the report is out, and last the types were told where a file lacks code
pub returns-clause-replayed : goal.returns-clause-replayed
returns-clause-replayed g c =
    let same = c.lack_code-lacking.ensures ∙ ap (λ l. list_any (λ own. is_no_code own.line.verdict) l) c.as_slice.ensures.value in
    record {
      records = c.in_ok-records.records.items;
      between = c.replay_in_batches.new.console;
      ended = c.end_report.new.console;
      found = c.in_ok-records.ensures.found;
      told = c.in_ok-records.ensures.told;
      reported = c.in-Ok.ensures.reported;
      known = subst (λ lacking. Reported c.end_report.new.console c.report.new.self (known_types_text c.args.types.now lacking)) same c.report.ensures;
    }

-- or the replay stopped
pub returns-in_err-records-clause-stopped : goal.returns-in_err-records-clause-stopped
returns-in_err-records-clause-stopped g c =
    lacks_unread (AreRecordsOf c.args.options g.W.Workflow.program (IsReadAs g.R.InputReader.gives)) faulty_of c.args.mode c.args.inputs.items c.args.console.now c.replay_in_batches.new.console
    c.in_err-records.field-0.0 c.from_residual.result c.in_err-records.ensures.stopped c.from_residual.ensures.1

-- or the report can't be put out
pub returns-in-Err-clause-stopped : goal.returns-in-Err-clause-stopped
returns-in-Err-clause-stopped g c =
    let program = g.W.Workflow.program in
    let Reads = IsReadAs g.R.InputReader.gives in
    lacks_for_output (AreRecordsOf c.args.options program Reads) faulty_of c.args.mode c.args.inputs.items c.in_ok-records.records.items
    c.args.console.now c.replay_in_batches.new.console c.end_report.new.console c.in-Err.failure
    (as_many c.args.options program Reads) c.in_ok-records.ensures.found c.in_ok-records.ensures.told c.in-Err.ensures.cut
