use Rattle.std.proofs.Common.{ap₂, ◌∙◌}
use Rattle.std.proofs.lemmas.Result.{IfOk-weaker}
use Rattle.wh_commands.specs.Payloads.{encoded}
use Rattle.wh_commands.proofs.payload.encoded_json.Goals as goal

pub returns : goal.returns
returns c =
    IfOk-weaker c.encode_payload.result _ _ (λ payload same. same ∙ ap₂ encoded c.as_bytes.ensures.value c.as_bytes-2.ensures.value) c.encode_payload.ensures
