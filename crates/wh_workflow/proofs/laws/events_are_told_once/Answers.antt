use Rattle.wh_workflow.proofs.Telling.{each_tells_once, starts_once}
use Rattle.wh_workflow.proofs.laws.events_are_told_once.Goals as goal

pub returns-clause-each : goal.returns-clause-each
returns-clause-each c = each_tells_once

pub returns-clause-start : goal.returns-clause-start
returns-clause-start c = starts_once
