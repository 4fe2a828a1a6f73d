use Rattle.wh_author_tools.proofs.Arrows.{arrow_cases}
use Rattle.wh_author_tools.proofs.words.at_arrow.Goals as goal

pub returns : goal.returns
returns c = arrow_cases c.args.line.now _ c.split_once.ensures.cases
