use Rattle.std.proofs.Common.{◌≡◌, Option}
use Rattle.serde_json.specs.Data.{Data}
use Rattle.wh_commands.specs.CarryingOver.{Carried}
use Rattle.wh_commands.proofs.carrying.carried_by.Goals as goal

abbrev carried : Option Data → Option Data → Option Data → Carried
carried memo attributes policy = record { memo = memo; search_attributes = attributes; retry_policy = policy }

same : (m n a b p q : Option Data) → m ≡ n → a ≡ b → p ≡ q → carried m a p ≡ carried n b q
same m n a b p q e f g = cc

pub returns : goal.returns
returns c = same _ _ _ _ _ _ c.in_ok-memo.ensures c.in_ok-search_attributes.ensures c.in_ok-retry_policy.ensures
