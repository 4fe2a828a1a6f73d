use Rattle.std.proofs.Common.{rules}
use Rattle.wh_poll.proofs.answer.answer_by_handler.Goals as goal

pub returns-clause-sends : goal.returns-clause-sends
returns-clause-sends g c = search rules
