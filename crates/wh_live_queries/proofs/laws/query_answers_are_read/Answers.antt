use Rattle.wh_live_queries.proofs.Reading.{answers_differ, answers_read}
use Rattle.wh_live_queries.proofs.laws.query_answers_are_read.Goals as goal

pub returns-clause-read : goal.returns-clause-read
returns-clause-read c = answers_read

pub returns-clause-apart : goal.returns-clause-apart
returns-clause-apart c = answers_differ
