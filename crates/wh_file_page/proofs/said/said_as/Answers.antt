use Rattle.std.specs.Prelude.{IfOk}
use Rattle.wh_file_page.proofs.Found.{recorded_alone}
use Rattle.wh_file_page.proofs.Members.{not_read, was_read}
use Rattle.wh_file_page.proofs.said.said_as.Goals as goal
use Rattle.wh_file_page.specs.Pages.{IsSaidOf}

-- a file that is replayed
pub returns-in-Some : goal.returns-in-Some
returns-in-Some g c only_recorded own =
    was_read only_recorded c.args.bytes.now c.in-Some.read
    (λ only. IfOk c.judge_replayed.result (λ said. IsSaidOf g.W.Workflow.program only c.args.name.now c.args.bytes.now said.said said.status))
    (rw c.in-Some.is at own) c.judge_replayed.ensures

-- and one of which only what is recorded is said
pub returns-in-None : goal.returns-in-None
returns-in-None g c only_recorded own =
    not_read only_recorded c.args.bytes.now
    (λ only. IfOk c.judge_recorded.result (λ said. IsSaidOf g.W.Workflow.program only c.args.name.now c.args.bytes.now said.said said.status))
    (rw c.in-None.is at own) (recorded_alone c.args.name.now c.judge_recorded.result c.judge_recorded.ensures.said c.judge_recorded.ensures.ends)
