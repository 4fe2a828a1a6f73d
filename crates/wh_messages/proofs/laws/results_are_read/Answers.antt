use Rattle.std.proofs.Common.{refl}
use Rattle.wh_json.specs.Fields.{field}
use Rattle.wh_messages.proofs.Serving.{page_back, task_is_read, activity_is_read}
use Rattle.wh_messages.proofs.laws.results_are_read.Goals as goal

pub returns-clause-page : goal.returns-clause-page
returns-clause-page c = page_back

pub returns-clause-task : goal.returns-clause-task
returns-clause-task c = task_is_read

pub returns-clause-activity : goal.returns-clause-activity
returns-clause-activity c = activity_is_read

pub returns-clause-empty : goal.returns-clause-empty
unfolding field
returns-clause-empty c = (refl, refl)
