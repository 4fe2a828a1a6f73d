use Rattle.std.proofs.Common.{rules}
use Rattle.wh_recorded.proofs.sent_answers.SentAnswers.as_slice.Goals as goal

pub returns : goal.returns
returns c = search rules
