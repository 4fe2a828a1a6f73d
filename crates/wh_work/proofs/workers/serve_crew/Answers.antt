use Rattle.std.proofs.Common.{◌∙◌, sym}
use Rattle.wh_crew.proofs.Served.{served}
use Rattle.wh_work.proofs.workers.serve_crew.Goals as goal

-- the crew has a member for each seat
pub returns-in-Ok-clause-served : goal.returns-in-Ok-clause-served
returns-in-Ok-clause-served g c =
    let plan = c.args.work.now.plan.now in
    served g.W.Workflow.program _ _ plan.config plan.options plan.workers c.args.crew.items c.in-Ok.end (sym c.args.crew.ok.0 ∙ c.requires.seats) c.in-Ok.ensures.served
