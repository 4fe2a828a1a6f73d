use Rattle.wh_match.proofs.Reducing.{reduced_by-context}
use Rattle.wh_match.proofs.laws.reduced_is_said.Goals as goal

pub returns : goal.returns
returns c = reduced_by-context
