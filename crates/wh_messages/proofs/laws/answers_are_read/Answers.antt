use Rattle.wh_messages.proofs.ServerReading.{completion_read, failures_read, query_failed_read}
use Rattle.wh_messages.proofs.laws.answers_are_read.Goals as goal

pub returns-clause-completed : goal.returns-clause-completed
returns-clause-completed c = completion_read

pub returns-clause-others : goal.returns-clause-others
returns-clause-others c = failures_read

pub returns-clause-query : goal.returns-clause-query
returns-clause-query c = query_failed_read
