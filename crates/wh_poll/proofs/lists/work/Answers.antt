use Rattle.std.proofs.Common.{rules, subst, sym}
use Rattle.wh_poll.specs.Lists.{IsWorkOf}
use Rattle.wh_poll.proofs.ByLists.{work_of}
use Rattle.wh_poll.proofs.lists.work.Goals as goal

pub returns-clause-taken : goal.returns-clause-taken
returns-clause-taken g c = search rules

pub returns-clause-work : goal.returns-clause-work
returns-clause-work g c =
    let S = g.S.TaskSource in
    subst (λ worker. IsWorkOf g.W.Workflow.program S.fetches S.delivers S.answers S.failures S.comes_from g.A.ActivityHandler.may c.args.seat c.args.source c.args.handler c.args.turns worker) (sym c.worker_of.ensures)
    (work_of _ _ _ g.W.Workflow.program S.fetches S.delivers S.answers S.failures S.comes_from g.A.ActivityHandler.may c.args.seat _ c.run_worker.result c.run_worker.ensures)
