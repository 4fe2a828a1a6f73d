use Rattle.wh_messages.proofs.ServerReading.{polls_read, history_read, end_read}
use Rattle.wh_messages.proofs.laws.requests_are_read.Goals as goal

pub returns-clause-polls : goal.returns-clause-polls
returns-clause-polls c = polls_read

pub returns-clause-history : goal.returns-clause-history
returns-clause-history c = history_read

pub returns-clause-end : goal.returns-clause-end
returns-clause-end c = end_read
