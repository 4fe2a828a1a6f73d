use Rattle.wh_replay_command.proofs.Steps.{report_ended}
use Rattle.wh_replay_command.proofs.replay.end_report.Goals as goal

-- the report is out, and the rest was reported after it
pub returns-clause-reported : goal.returns-clause-reported
returns-clause-reported g c =
    report_ended c.args.records.items c.as_slice.result.now c.args.options c.args.lacks
    c.args.console.now c.print_report-answer.new.console c.flush_answer.new.console c.report_records.new.console
    c.print_report-answer.result c.in_ok-status.status c.status_with.result c.as_slice.ensures.value
    c.print_report-answer.ensures.printed c.print_report-answer.ensures.status
    c.in_ok-status.ensures.quiet c.in_ok-status.ensures.kept c.in_ok-status.ensures.status c.report_records.ensures c.status_with.ensures.status
