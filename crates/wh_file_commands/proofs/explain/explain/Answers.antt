use Rattle.std.proofs.Common.{refl}
use Rattle.std.specs.Prelude.{Ok}
use Rattle.wh_file_commands.proofs.Steps.{explanation_ended}
use Rattle.wh_file_commands.proofs.explain.explain.Goals as goal

-- the explanation is out, and where the file is no JSON was reported after it
pub returns-clause-explained : goal.returns-clause-explained
returns-clause-explained g c =
    let line = c.in-Ok in
    explanation_ended g.W.Workflow.program c.args.selection c.args.format (c.args.name, c.args.bytes) c.as_slice-seen.result.now
    c.args.console.now c.print_explanation.new.console c.flush_answer-2.new.console c.report_detail.new.console line.line c.in-Ok-unread_detail.detail (Ok c.line_status.result) c.line_status.result c.in_ok-status.status
    c.as_slice-seen.ensures.value line.ensures.quiet line.ensures.explained c.in_ok-status.ensures.quiet c.in_ok-status.ensures.kept
    c.in-Ok-unread_detail.ensures.detail c.report_detail.ensures c.line_status.ensures refl c.in_ok-status.ensures.status
