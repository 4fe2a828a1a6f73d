use Rattle.wh_host.proofs.Keeps.{opening-holds, Steps-keep, Steps-count}
use Rattle.wh_host.proofs.laws.runs_of_steps.Goals as goal

pub returns-clause-keeps : goal.returns-clause-keeps
returns-clause-keeps g c = λ config calls end within given steps.
    Steps-keep g.W.Workflow.program _ calls end
    (opening-holds g.W.Workflow.program _ _ _ _ within.workflow.0 within.workflow.1 within.activity.0 within.activity.1 within.cache within.cache_events) given steps

pub returns-clause-counts : goal.returns-clause-counts
returns-clause-counts g c = λ config calls end steps. Steps-count _ calls end steps
