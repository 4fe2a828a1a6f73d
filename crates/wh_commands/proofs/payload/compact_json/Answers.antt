use Rattle.std.proofs.lemmas.Result.{IfOk-weaker}
use Rattle.wh_commands.proofs.payload.compact_json.Goals as goal

pub returns : goal.returns
returns c = IfOk-weaker c.to_string.result _ _ (λ text same. same c.requires) c.to_string.ensures.text
