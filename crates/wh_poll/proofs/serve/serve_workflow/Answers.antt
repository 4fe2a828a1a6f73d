use Rattle.std.proofs.Common.{rules}
use Rattle.wh_poll.proofs.Turns.{serves_sent}
use Rattle.wh_poll.proofs.serve.serve_workflow.Goals as goal

-- what was sent after the poll is the answer of the turn
pub returns-clause-serves : goal.returns-clause-serves
returns-clause-serves g c =
    let fetches = g.S.TaskSource.fetches in
    let answers = g.S.TaskSource.answers in
    let polled = c.start_workflow.new.source in
    let served = serves_sent g.W.Workflow.program (fetches c.args.source.now) (fetches polled) (g.S.TaskSource.delivers c.args.source.now)
    (answers c.args.source.now) (answers polled) (answers c.answer_held-sent.new.source) c.in-Task.task c.in-Ok.taken.1 c.answer_held-sent.result
    c.in-Task.ensures.task c.start_workflow.ensures.answers c.start_workflow.ensures.keeps.same.fetches c.answer_held-sent.ensures.sends in
    search (rules, served)
