use Rattle.wh_promise_phrases.proofs.FirstMarks.{mark_cases}
use Rattle.wh_promise_phrases.proofs.marks.at_comma.Goals as goal

pub returns : goal.returns
returns c = mark_cases 44 32 c.args.text.now _ c.split_once.ensures.cases
