use Rattle.wh_host.proofs.Keeps.{opening-holds}
use Rattle.wh_host.proofs.state.HostState.beside.Goals as goal

pub invariant_of-result : goal.invariant_of-result
invariant_of-result g c =
    let within = c.requires.config in
    rw (c.in_ok-workflow.ensures.workflow, c.in_ok-workflow.ensures.activity, c.in_ok-marks.ensures.marks, c.in_ok-marks.ensures.cache, c.requires.books)
    (opening-holds g.W.Workflow.program _ _ _ _ within.workflow.0 within.workflow.1 within.activity.0 within.activity.1 within.cache within.cache_events)
