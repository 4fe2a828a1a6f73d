use Rattle.std.proofs.Common.{refl}
use Rattle.wh_json.specs.Fields.{field}
use Rattle.wh_messages.proofs.laws.cancels_are_read.Goals as goal

pub returns : goal.returns
unfolding field
returns c = record { written = λ requested. refl; absent = refl }
