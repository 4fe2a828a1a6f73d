use Rattle.wh_author_tools.proofs.Answered.{each_line}
use Rattle.wh_author_tools.proofs.laws.follows_each_line.Goals as goal

pub returns : goal.returns
returns g c = λ kind scenario. each_line g.W.Workflow.program kind scenario
