use Rattle.wh_json.specs.Fields.{field, list_in}
use Rattle.wh_markers.proofs.laws.shorthand_says_the_same.Goals as goal

pub returns : goal.returns
unfolding field list_in
returns c = λ payload d held. held
