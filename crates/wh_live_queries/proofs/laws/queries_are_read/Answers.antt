use Rattle.wh_live_queries.proofs.Reading.{query_is_read, query_with_task_is_read}
use Rattle.wh_live_queries.proofs.laws.queries_are_read.Goals as goal

pub returns-clause-alone : goal.returns-clause-alone
returns-clause-alone c = query_is_read

pub returns-clause-with_task : goal.returns-clause-with_task
returns-clause-with_task c = query_with_task_is_read
