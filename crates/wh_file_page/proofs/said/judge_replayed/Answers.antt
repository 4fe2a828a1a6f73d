use Rattle.wh_file_page.proofs.Found.{found_said}
use Rattle.wh_file_page.proofs.said.judge_replayed.Goals as goal

pub returns : goal.returns
returns g c own =
    found_said g.W.Workflow.program c.args.name.now c.args.bytes.now c.in_ok-explanation.explanation c.said_by.result
    (c.in_ok-explanation.ensures.explained c.args.bytes.now own) c.said_by.ensures.said c.said_by.ensures.ends c.said_by.ensures.known
