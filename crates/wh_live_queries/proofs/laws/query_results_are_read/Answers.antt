use Rattle.wh_live_queries.proofs.Reading.{results_differ, results_read}
use Rattle.wh_live_queries.proofs.laws.query_results_are_read.Goals as goal

pub returns-clause-read : goal.returns-clause-read
returns-clause-read c = results_read

pub returns-clause-apart : goal.returns-clause-apart
returns-clause-apart c = results_differ
