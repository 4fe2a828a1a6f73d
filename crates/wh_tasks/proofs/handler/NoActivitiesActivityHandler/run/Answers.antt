use Rattle.std.proofs.Common.{rules}
use Rattle.wh_tasks.proofs.handler.NoActivitiesActivityHandler.run.Goals as goal

pub returns-clause-answer : goal.returns-clause-answer
returns-clause-answer c = search rules
