use Rattle.std.proofs.Common.{rules}
use Rattle.test_core.proofs.faulty_source.FaultySourceTaskSource.answer_activity.Goals as goal

pub returns-clause-sent : goal.returns-clause-sent
returns-clause-sent g c = search rules
